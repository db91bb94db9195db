-- From the last base to the first, the number is what is left of it times the product of the bases done, plus the
-- number of the digits done (`IsSplitFrom`).
use Rattle.std.proofs.Common.{◌≡◌, ℕ, List, ◌<◌, ◌≤◌, length, arith, sym, ap, ◌∙◌, refl}
use Rattle.lists.specs.Digits.{product_of, joined, split, AreDigits}
use Rattle.lists.proofs.Digits.{split-joined}
use Rattle.mixed_radix.proofs.Suffixes.{IsSplitFrom, base_positive, split_start, split_step, split_end}
use Rattle.mixed_radix.proofs.Radix.split.Goals as goal

pub loop-place-init : goal.loop-place-init
loop-place-init c = split_start _ _ _ _ refl (c.requires.places ∙ ap length (sym c.bases-bases.ensures.value))

pub nonzero_rem-digits : goal.nonzero_rem-digits
nonzero_rem-digits c = base_positive _ _ c.bases-bases.ensures.positive (omega arith)

pub nonzero_div-rest : goal.nonzero_div-rest
nonzero_div-rest c = base_positive _ _ c.bases-bases.ensures.positive (omega arith)

pub loop-place-preserved : goal.loop-place-preserved
loop-place-preserved c =
    split_step _ _ _ _ _ _ (omega arith) (omega arith) (c.loop-place.auto.digits ∙ c.requires.places ∙ ap length (sym c.bases-bases.ensures.value)) c.bases-bases.ensures.positive c.loop-place.invariant

written : (bases own digits : List ℕ) (k rest place : ℕ) → bases ≡ own → place ≤ 0 → k < product_of own → IsSplitFrom bases digits k rest place
    → AreDigits own digits × (joined own digits ≡ k)
written bases own digits k rest place e h less s = split_end own digits k rest place (omega arith) less (rw (← e) s)

pub returns-clause-value : goal.returns-clause-value
returns-clause-value c =
    let end = written _ _ _ _ _ _ c.bases-bases.ensures.value c.loop-place-test.false c.requires.below c.loop-place.invariant in
    sym (split-joined c.args.self.now c.loop-place.digits end.0).1 ∙ ap (split c.args.self.now) end.1

pub returns-clause-within : goal.returns-clause-within
returns-clause-within c = (written _ _ _ _ _ _ c.bases-bases.ensures.value c.loop-place-test.false c.requires.below c.loop-place.invariant).0

pub returns-clause-number : goal.returns-clause-number
returns-clause-number c = (written _ _ _ _ _ _ c.bases-bases.ensures.value c.loop-place-test.false c.requires.below c.loop-place.invariant).1
