-- The algorithm of Euclid on m and x, from its start to the first remainder that is at most the bound.
use Rattle.std.proofs.Common.{◌≡◌, ℕ, zero, suc, ◌+◌, ◌*◌, ◌/◌, ◌%◌, ◌<◌, ◌≤◌, Bool, true, false, not, ap, arith}
use Rattle.std.proofs.Math.Nat.{div-add-mod, mod-lt, le-mul_of_pos_right}
use Rattle.arithmetic.proofs.Congruences.{same_of_eq, same_trans, same_multiple}
use Rattle.recover_fraction.proofs.SignedResidues.{IsTimes, plus, minus, times_step}

-- what two remainders in a row are
pub record IsRun (m x a larger smaller of_larger of_smaller : ℕ) (negative : Bool) : Type 0 where
  pub whole : larger * of_smaller + smaller * of_larger ≡ m
  pub above : a < larger
  pub falling : smaller < larger
  pub positive : 1 ≤ of_smaller
  pub smaller_is : IsTimes m x smaller of_smaller negative
  pub larger_is : IsTimes m x larger of_larger (not negative)

pub first_run : (m x a b : ℕ) → x < m → 1 ≤ b → 2 * a * b < m → IsRun m x a m x 0 1 false
first_run m x a b h p l = record {
  whole = omega arith;
  above = let more : a ≤ a * b = le-mul_of_pos_right a p in omega (arith, more, l);
  falling = h;
  positive = omega arith;
  smaller_is = plus (same_of_eq m x (1 * x) (omega arith));
  larger_is = minus (same_trans (same_of_eq m _ _ (turned m x)) (same_multiple m 0 1));
}
  where
    turned : (m x : ℕ) → m + 0 * x ≡ 0 + m * 1
    turned m x = omega arith

pub next_run : (m x a larger smaller of_larger of_smaller : ℕ) (s : Bool) → a < smaller → IsRun m x a larger smaller of_larger of_smaller s
    → IsRun m x a smaller (larger % smaller) of_smaller (of_larger + larger / smaller * of_smaller) (not s)
next_run m x a larger smaller of_larger of_smaller s h r = record {
  whole = whole m larger smaller of_larger of_smaller (larger / smaller) (larger % smaller) (div-add-mod larger smaller) r.whole;
  above = h;
  falling = mod-lt larger (omega arith);
  positive = positive larger smaller of_larger of_smaller (larger / smaller) (larger % smaller) (div-add-mod larger smaller) (mod-lt larger (omega arith)) r.falling r.positive;
  smaller_is = times_step m x larger smaller of_larger of_smaller s r.larger_is r.smaller_is;
  larger_is = twice s r.smaller_is;
}
  where
    whole : (m l s t' t q r : ℕ) → s * q + r ≡ l → l * t + s * t' ≡ m → s * (t' + q * t) + r * t ≡ m
    whole m l s t' t q r e f = omega (arith, ap (λ y. y * t) e, f)

    positive : (l s t' t q r : ℕ) → s * q + r ≡ l → r < s → s < l → 1 ≤ t → 1 ≤ t' + q * t
    positive l s t' t zero r e h k p = absurd (omega arith)
    positive l s t' t (suc q) r e h k p = omega arith

    twice : (s : Bool) → IsTimes m x smaller of_smaller s → IsTimes m x smaller of_smaller (not (not s))
    twice false h = h
    twice true h = h
