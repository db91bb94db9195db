-- The two remainders keep what `IsRun` says of them; at the first remainder that is at most the bound, the pair found
-- agrees if any pair does, and no other pair can.
use Rattle.std.proofs.Common.{◌≡◌, ℕ, ◌<◌, ◌^◌, rules, ℤ, Bool, if◌then◌else◌, pos, neg_ℤ, refl, sym, subst, ◌∙◌, arith, to_z, of_z, w64}
use Rattle.std.proofs.lemmas.Int.{to_z-of_z}
use Rattle.std.specs.Int.Signed.{mag}
use Rattle.arithmetic.specs.Agreement.{AgreesModulo}
use Rattle.recover_fraction.proofs.SignedResidues.{signed, signed_is}
use Rattle.recover_fraction.proofs.OnlyPair.{stop, only, agrees, needed}
use Rattle.recover_fraction.proofs.Stops.{first_run, next_run}
use Rattle.recover_fraction.proofs.recovery.recover.Goals as goal
use Rattle.recover_fraction.proofs.recovery.recover.Goals.{else-of_smaller-b-via-then-of_smaller-b+else-coprime, else-of_smaller-b-via-else-of_smaller-b}

pub loop-smaller-init : goal.loop-smaller-init
loop-smaller-init c = first_run c.args.m c.args.x c.args.a c.args.b c.requires.x_below c.requires.b_positive c.requires.bounds

pub loop-smaller-preserved : goal.loop-smaller-preserved
loop-smaller-preserved c = next_run _ _ _ _ _ _ _ _ c.loop-smaller-test.true c.loop-smaller.invariant

-- the top as the code has it
top_is : (s : Bool) (n : ℕ) (z : ℤ) → z ≡ (if s then neg_ℤ (pos n) else pos n) → mag z < 2 ^ 63 → to_z w64 (of_z w64 z) ≡ signed s n
top_is s n z e h = to_z-of_z w64 z (search rules) ∙ e ∙ signed_is s n

pub returns-then-coprime-clause-agrees : goal.returns-then-coprime-clause-agrees
returns-then-coprime-clause-agrees c =
    let s = stop c.args.m c.args.x c.args.a c.args.b _ _ _ _ _ c.loop-smaller.invariant c.loop-smaller-test.false c.requires.bounds in
    let top = top_is c.loop-smaller.negative c.loop-smaller.smaller _ c.with_sign.ensures c.with_sign.type_inv in
    subst (λ p. AgreesModulo c.args.m c.args.x c.args.a c.args.b p c.loop-smaller.of_smaller) (sym top)
    (agrees c.args.m c.args.x c.args.a c.args.b _ _ _ _ _ s c.loop-smaller.invariant.positive c.if-of_smaller-b.true (c.coprime.ensures.0 c.if-coprime.true))

pub returns-then-coprime-clause-only : goal.returns-then-coprime-clause-only
returns-then-coprime-clause-only c = λ p q g.
    let s = stop c.args.m c.args.x c.args.a c.args.b _ _ _ _ _ c.loop-smaller.invariant c.loop-smaller-test.false c.requires.bounds in
    let top = top_is c.loop-smaller.negative c.loop-smaller.smaller _ c.with_sign.ensures c.with_sign.type_inv in
    let both = only c.args.m c.args.x c.args.a c.args.b _ _ _ _ _ p q s g in
    (both.0 ∙ sym top, both.1)

pub returns-then-coprime-clause-none : goal.returns-then-coprime-clause-none
returns-then-coprime-clause-none c =
    let s = stop c.args.m c.args.x c.args.a c.args.b _ _ _ _ _ c.loop-smaller.invariant c.loop-smaller-test.false c.requires.bounds in
    let pair = agrees c.args.m c.args.x c.args.a c.args.b _ _ _ _ _ s c.loop-smaller.invariant.positive c.if-of_smaller-b.true (c.coprime.ensures.0 c.if-coprime.true) in
    (λ no. cc, λ none. absurd (none _ _ pair))

pub returns-else-of_smaller-b-clause-none : goal.returns-else-of_smaller-b-clause-none
returns-else-of_smaller-b-clause-none c =
    let s = stop c.args.m c.args.x c.args.a c.args.b _ _ _ _ _ c.loop-smaller.invariant c.loop-smaller-test.false c.requires.bounds in (
      λ _ p q g.
          let parts = needed c.args.m c.args.x c.args.a c.args.b _ _ _ _ _ p q s g in
          elim c.else-of_smaller-b.branch [
            | else-of_smaller-b-via-then-of_smaller-b+else-coprime w ↦ cc (w.coprime.ensures.1 parts.1)
            | else-of_smaller-b-via-else-of_smaller-b w ↦ omega (arith, parts.0, w.if-of_smaller-b.false)
          ],
      λ _. refl,
    )
