-- The extended algorithm of Euclid: the two numbers keep their greatest common divisor, and each is `x` times its
-- factor modulo the modulus; at the end it is 1 or there is no inverse.
use Rattle.std.proofs.Common.{◌≡◌, ℕ, ◌≤◌, arith, refl, sym, ap, ◌∙◌}
use Rattle.arithmetic.specs.Numbers.{gcd}
use Rattle.arithmetic.proofs.Divisors.{gcd-mod, gcd_zero_left, gcd_comm}
use Rattle.residue.proofs.Steps.{below_by, inverse_step_at}
use Rattle.residue.proofs.modulus.Modulus.inverse.Goals as goal

pub loop-smaller-preserved : goal.loop-smaller-preserved
loop-smaller-preserved c = record {
  modulus = c.get-m.ensures.value;
  larger_below = c.loop-smaller.invariant.smaller_below;
  smaller_below = below_by _ _ _ _ c.get-m.ensures.value c.sub-next.ensures.value (omega arith);
  same_gcd = gcd-mod c.loop-smaller.larger c.loop-smaller.smaller ∙ c.loop-smaller.invariant.same_gcd;
  of_larger_is = c.loop-smaller.invariant.of_smaller_is;
  of_smaller_is =
      inverse_step_at _ _ _ _ _ _ _ _ _ _ c.get-m.ensures.value c.loop-smaller.invariant.smaller_below
      c.loop-smaller.invariant.of_larger_is c.loop-smaller.invariant.of_smaller_is c.remainder-quotient.ensures.value c.mul.ensures.value c.sub-next.ensures.value;
}

-- when the loop has ended, the larger number is the greatest common divisor
ended : (a b m x self : ℕ) → b ≤ 0 → m ≡ self → gcd a b ≡ gcd m x → gcd x self ≡ a
ended a b m x self none e h =
    gcd_comm x self ∙ ap (λ n. gcd n x) (sym e) ∙ sym h ∙ gcd_zero_left a b (omega arith)

pub returns-then-larger-eq1-clause-none : goal.returns-then-larger-eq1-clause-none
returns-then-larger-eq1-clause-none c =
    let e = ended _ _ _ _ _ c.loop-smaller-test.false c.get-m.ensures.value c.loop-smaller.invariant.same_gcd in
    (λ no. cc, λ ne. absurd (ne (e ∙ c.if-larger-eq1.true)))

pub returns-else-larger-eq1-clause-none : goal.returns-else-larger-eq1-clause-none
returns-else-larger-eq1-clause-none c =
    let e = ended _ _ _ _ _ c.loop-smaller-test.false c.get-m.ensures.value c.loop-smaller.invariant.same_gcd in
    (λ _. λ one. c.if-larger-eq1.false (sym e ∙ one), λ _. refl)

pub returns-then-larger-eq1-clause-unit : goal.returns-then-larger-eq1-clause-unit
returns-then-larger-eq1-clause-unit c =
    ended _ _ _ _ _ c.loop-smaller-test.false c.get-m.ensures.value c.loop-smaller.invariant.same_gcd ∙ c.if-larger-eq1.true
