-- Where Euclid's algorithm on m and x first falls to the bound, its pair is the only one that can agree.
use Rattle.std.proofs.Common.{◌≡◌, ℕ, zero, suc, ◌+◌, ◌*◌, ◌<◌, ◌≤◌, ◌⊎◌, inl, inr, Bool, true, false, not, ℤ, pos, negsuc, nat_abs, refl, sym, ap, ap₂, subst, ◌∙◌, arith, mul-one}
use Rattle.std.specs.Int.{◌∣◌}
use Rattle.std.proofs.Math.Nat.{dvd-mul_left, eq-one_of_dvd-one}
use Rattle.arithmetic.specs.Numbers.{gcd}
use Rattle.arithmetic.proofs.Congruences.{Same, same_refl, same_sym, same_trans, same_add}
use Rattle.arithmetic.proofs.Divisors.{gcd_is}
use Rattle.arithmetic.specs.Agreement.{AgreesModulo}
use Rattle.recover_fraction.proofs.Multiples.{multiple_of, apart_by}
use Rattle.recover_fraction.proofs.SignedResidues.{IsTimes, plus, minus, signed, size_of_signed, across_same, across_other, times_from_divides, divides_from_times}
use Rattle.recover_fraction.proofs.Stops.{IsRun}
use Rattle.recover_fraction.proofs.EuclidSteps.{IsStep, same_sign, not_below, other_sign, other_sign_above}

-- what the algorithm stops at: its last two remainders are multiples of x, of different signs
pub record IsStop (m x a b last next last_factor next_factor : ℕ) (negative : Bool) : Type 0 where
  pub step : IsStep m a b last next last_factor next_factor
  pub next_is : IsTimes m x next next_factor negative
  pub last_is : IsTimes m x last last_factor (not negative)

-- a common factor of two numbers that are coprime is 1
one_factor : (n q k r t : ℕ) → gcd n q ≡ 1 → n ≡ r * k → q ≡ t * k → k ≡ 1
one_factor n q k r t e hn hq =
    eq-one_of_dvd-one (subst (λ g. k ∣ g) e ((gcd_is n q).2 k (subst (λ y. k ∣ y) (sym hn) (dvd-mul_left k r)) (subst (λ y. k ∣ y) (sym hq) (dvd-mul_left k t))))

module _ (m x a b last next last_factor next_factor : ℕ) where
  -- a pair of the sign of the next remainder is that remainder over its factor
  same : (s : Bool) → IsStop m x a b last next last_factor next_factor s → (n q : ℕ) → IsTimes m x n q s → n ≤ a → q ≤ b → gcd n q ≡ 1 → (n ≡ next) × (q ≡ next_factor)
  same s h n q t hn hq e = by_last (multiple_of m _ (crossed s h t)) (apart_by m _ _ (across_same m x next next_factor n q s h.next_is t))
    where
      crossed : (s : Bool) → IsStop m x a b last next last_factor next_factor s → IsTimes m x n q s → Same m (n * last_factor + q * last) 0
      crossed false h t = across_other m x last last_factor n q true h.last_is t
      crossed true h t = across_other m x last last_factor n q false h.last_is t

      whole : (r k : ℕ) → k ≡ 1 → r * k ≡ r
      whole r k f = rw f (mul-one r)

      by_last : (k' : ℕ) × (n * last_factor + q * last ≡ k' * m)
          → ((k : ℕ) × (n * next_factor ≡ q * next + k * m)) ⊎ ((h : ℕ) × (q * next ≡ n * next_factor + suc h * m)) → (n ≡ next) × (q ≡ next_factor)
      by_last k' (inl k) =
          let both = same_sign m a b last next last_factor next_factor h.step n q k.0 k'.0 hn hq k.1 k'.1 in
          let one = one_factor n q k'.0 next next_factor e both.0 both.1 in
          (both.0 ∙ whole next k'.0 one, both.1 ∙ whole next_factor k'.0 one)
      by_last k' (inr k) = absurd (not_below m a b last next last_factor next_factor h.step n q k.0 hq k.1)

  -- no pair has the other sign
  other : (s : Bool) → IsStop m x a b last next last_factor next_factor s → (n q : ℕ) → IsTimes m x n q (not s) → 1 ≤ n → n ≤ a → 1 ≤ q → q ≤ b → ⊥
  other s h n q t pn hn pq hq = by_last (multiple_of m _ (across_other m x next next_factor n q s h.next_is t)) (apart_by m _ _ (same_sym (across_same m x last last_factor n q (not s) h.last_is t)))
    where
      by_last : (k : ℕ) × (n * next_factor + q * next ≡ k * m)
          → ((k' : ℕ) × (q * last ≡ n * last_factor + k' * m)) ⊎ ((h : ℕ) × (n * last_factor ≡ q * last + suc h * m)) → ⊥
      by_last k (inl k') = other_sign m a b last next last_factor next_factor h.step n q k.0 k'.0 pn hn hq k.1 k'.1
      by_last k (inr k') = other_sign_above m a b last next last_factor next_factor h.step n q k.0 k'.0 pq hn k.1 k'.1

  some : {s : Bool} → IsStop m x a b last next last_factor next_factor s → 0 < m
  some h = let l = h.step.bounds in omega arith

  -- 0 has either sign
  turned_zero : (q : ℕ) → IsTimes m x 0 q false → IsTimes m x 0 q true
  turned_zero q (plus h) = minus (same_trans (same_add h (same_refl m (q * x))) (same_trans (same_add (same_sym h) (same_sym h)) (same_refl m 0)))

  pub only : (s : Bool) (p : ℤ) (q : ℕ) → IsStop m x a b last next last_factor next_factor s → AgreesModulo m x a b p q → (p ≡ signed s next) × (q ≡ next_factor)
  only false (pos n) q h g =
      let t = (times_from_divides m x q (pos n) (some h) g.divides).0 n refl in
      let both = same false h n q t g.top_within g.bottom_within g.lowest in
      (ap pos both.0, both.1)
  only false (negsuc n) q h g =
      let t = (times_from_divides m x q (negsuc n) (some h) g.divides).1 n refl in
      absurd (other false h (suc n) q t (omega arith) g.top_within g.positive g.bottom_within)
  only true (pos zero) q h g =
      let t = turned_zero q ((times_from_divides m x q (pos 0) (some h) g.divides).0 0 refl) in
      let both = same true h 0 q t g.top_within g.bottom_within g.lowest in
      (ap (signed true) both.0, both.1)
  only true (pos (suc n)) q h g =
      let t = (times_from_divides m x q (pos (suc n)) (some h) g.divides).0 (suc n) refl in
      absurd (other true h (suc n) q t (omega arith) g.top_within g.positive g.bottom_within)
  only true (negsuc n) q h g =
      let t = (times_from_divides m x q (negsuc n) (some h) g.divides).1 n refl in
      let both = same true h (suc n) q t g.top_within g.bottom_within g.lowest in
      (ap (signed true) both.0, both.1)

  -- the pair agrees if its bottom is within the bound and it is in lowest terms
  pub agrees : (s : Bool) → IsStop m x a b last next last_factor next_factor s → 1 ≤ next_factor → next_factor ≤ b → gcd next next_factor ≡ 1
      → AgreesModulo m x a b (signed s next) next_factor
  agrees s h positive within lowest = record {
    top_within = rw (size_of_signed s next) h.step.within;
    positive = positive;
    bottom_within = within;
    lowest = rw (size_of_signed s next) lowest;
    divides = divides_from_times m x next next_factor s (some h) h.next_is;
  }

pub stop : (m x a b larger smaller of_larger of_smaller : ℕ) (s : Bool) → IsRun m x a larger smaller of_larger of_smaller s → smaller ≤ a → 2 * a * b < m
    → IsStop m x a b larger smaller of_larger of_smaller s
stop m x a b larger smaller of_larger of_smaller s r h l = record {
  step = record { whole = r.whole; above = r.above; within = h; bounds = omega (arith, l) };
  next_is = r.smaller_is;
  last_is = r.larger_is;
}

-- if some pair agrees, the bottom found is within the bound and the pair found is in lowest terms
pub needed : (m x a b last next last_factor next_factor : ℕ) (s : Bool) (p : ℤ) (q : ℕ) → IsStop m x a b last next last_factor next_factor s
    → AgreesModulo m x a b p q → (next_factor ≤ b) × (gcd next next_factor ≡ 1)
needed m x a b last next last_factor next_factor s p q h g =
    let both = only m x a b last next last_factor next_factor s p q h g in (
      subst (λ n. n ≤ b) both.1 g.bottom_within,
      sym (ap₂ gcd (ap nat_abs both.0 ∙ size_of_signed s next) both.1) ∙ g.lowest,
    )
