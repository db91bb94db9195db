-- From the last digit to the first, the greatest digits turn to 0; the old number plus 1 is the number of the digits
-- now plus one unit of the digit before (`IsCarriedTo`).
use Rattle.std.proofs.Common.{◌≡◌, ℕ, List, length, set, get_or, replicate, ◌+◌, ◌-◌, ◌<◌, ◌≤◌, arith, refl, ◌∙◌, sym, ap}
use Rattle.std.proofs.lemmas.Bool.{false≢true}
use Rattle.lists.specs.Digits.{product_of, joined, split, AreDigits}
use Rattle.lists.proofs.Digits.{split-joined}
use Rattle.mixed_radix.proofs.Suffixes.{IsCarriedTo, carry_start, carry_step, carry_end, carry_through, length-digits, digit_below}
use Rattle.mixed_radix.proofs.Radix.next.Goals as goal

pub loop-place-init : goal.loop-place-init
loop-place-init c = carry_start _ _ _ refl (rw c.bases-bases.ensures.value c.requires)

pub bounds-digits-place : goal.bounds-digits-place
bounds-digits-place c = omega (arith, length-digits _ _ c.loop-place.invariant.digits)

pub overflow_add-digits : goal.overflow_add-digits
overflow_add-digits c =
    omega (arith, digit_below _ _ (c.loop-place.place - 1) c.loop-place.invariant.digits (omega arith), c.type_inv.bases (c.loop-place.place - 1))

pub bounds-digits-place-then-digits-place : goal.bounds-digits-place-then-digits-place
bounds-digits-place-then-digits-place c = omega (arith, length-digits _ _ c.loop-place.invariant.digits)

pub bounds-digits-place-then-digits-place-2 : goal.bounds-digits-place-then-digits-place-2
bounds-digits-place-then-digits-place-2 c = omega (arith, length-digits _ _ c.loop-place.invariant.digits)

pub bounds-digits-place-in-loop-place : goal.bounds-digits-place-in-loop-place
bounds-digits-place-in-loop-place c = omega (arith, length-digits _ _ c.loop-place.invariant.digits)

pub loop-place-preserved : goal.loop-place-preserved
loop-place-preserved c = carry_step _ _ _ _ _ (omega arith) (omega arith) (omega arith) c.loop-place.invariant

-- the digits of the next number
record IsNext (own old new : List ℕ) : Type 0 where
  digits : AreDigits own new
  number : joined own new ≡ joined own old + 1
  less : joined own old + 1 < product_of own
  value : new ≡ split own (joined own old + 1)

next_from : (own old new : List ℕ) → AreDigits own new × (joined own new ≡ joined own old + 1) → IsNext own old new
next_from own old new h =
    let s = split-joined own new h.0 in
    record { digits = h.0; number = h.1; less = (let a = s.0 in let b = h.1 in omega arith); value = sym s.1 ∙ ap (split own) h.1 }

raised : (bases own old digits : List ℕ) (place : ℕ) → bases ≡ own → 0 < place → place ≤ length bases
    → get_or digits (place - 1) 0 + 1 < get_or bases (place - 1) 0 → IsCarriedTo bases old digits place → IsNext own old (set digits (place - 1) (get_or digits (place - 1) 0 + 1))
raised bases own old digits place e some most less s =
    next_from own old _ (rw (← e) (carry_end bases old digits place (place - 1) (omega arith) (omega arith) less s))

-- the digits after the greatest number
record IsThrough (own old new : List ℕ) : Type 0 where
  most : product_of own ≤ joined own old + 1
  digits : AreDigits own new
  zeros : new ≡ replicate (length own) 0

carried : (bases own old digits : List ℕ) (place : ℕ) → bases ≡ own → place ≤ 0 → IsCarriedTo bases old digits place → IsThrough own old digits
carried bases own old digits place e none s =
    let t : IsCarriedTo own old digits place = rw (← e) s in
    let end = carry_through own old digits place (omega arith) t in
    record { most = end.0; digits = t.digits; zeros = end.1 }

pub returns-then-digits-place-clause-more : goal.returns-then-digits-place-clause-more
returns-then-digits-place-clause-more c =
    let next = raised _ _ _ _ _ c.bases-bases.ensures.value c.loop-place-test.true c.loop-place.auto.place c.if-digits-place.true c.loop-place.invariant in
    (λ _. next.less, λ _. refl)

pub returns-then-digits-place-clause-within : goal.returns-then-digits-place-clause-within
returns-then-digits-place-clause-within c =
    (raised _ _ _ _ _ c.bases-bases.ensures.value c.loop-place-test.true c.loop-place.auto.place c.if-digits-place.true c.loop-place.invariant).digits

pub returns-then-digits-place-clause-number : goal.returns-then-digits-place-clause-number
returns-then-digits-place-clause-number c =
    (raised _ _ _ _ _ c.bases-bases.ensures.value c.loop-place-test.true c.loop-place.auto.place c.if-digits-place.true c.loop-place.invariant).number

pub returns-then-digits-place-clause-value : goal.returns-then-digits-place-clause-value
returns-then-digits-place-clause-value c =
    (raised _ _ _ _ _ c.bases-bases.ensures.value c.loop-place-test.true c.loop-place.auto.place c.if-digits-place.true c.loop-place.invariant).value

pub returns : goal.returns
returns c =
    let through = carried _ _ _ _ _ c.bases-bases.ensures.value c.loop-place-test.false c.loop-place.invariant in
    record {
      more = (λ e. absurd (false≢true e), λ less. absurd (let most = through.most in omega arith));
      within = through.digits;
      number = tt;
      value = tt;
      zeros = through.zeros;
    }
