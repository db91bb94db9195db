-- The greatest common divisor: Euclid's algorithm finds it, since the greatest number that divides both is the one common divisor that
-- every other one divides.
use Rattle.std.proofs.Common.{◌≡◌, ℕ, zero, suc, ◌+◌, ◌%◌, ◌<◌, ◌≤◌, ◌⊎◌, inl, inr, Bool, true, false, ◌==◌, if◌then◌else◌, refl, sym, ◌∙◌, subst, ⊎_elim, arith, eqb-true, eq-eqb}
use Rattle.std.specs.Int.{◌∣◌, IsGcd}
use Rattle.std.proofs.lemmas.Nat.Gcd.{IsGcd-from_zero, IsGcd-from_mod, dvd_of_mod-eq-zero, mod-eq-zero_of_dvd, le_of_dvd, dvd-zero}
use Rattle.std.proofs.lemmas.Bool.{cases_lt, and_from, and_parts}
use Rattle.std.proofs.Math.Nat.{mod-lt, zero-lt-suc, eq-zero-or-pos, eq-zero_of_zero-dvd}
use Rattle.arithmetic.specs.Numbers.{gcd, greatest_divisor, divides_both}

-- Euclid's algorithm in at most the given number of steps
abbrev pub remainder_in_steps : ℕ → ℕ → ℕ → ℕ
remainder_in_steps zero a b = a
remainder_in_steps (suc k) a zero = a
remainder_in_steps (suc k) a (suc b) = remainder_in_steps k (suc b) (a % suc b)

unfoldable pub last_remainder : ℕ → ℕ → ℕ
last_remainder a b = remainder_in_steps (suc b) a b

remainder_in_steps_is : (k a b : ℕ) → b < k → IsGcd a b (remainder_in_steps k a b)
remainder_in_steps_is zero a b h = absurd (omega arith)
remainder_in_steps_is (suc k) a zero h = IsGcd-from_zero a 0 refl
remainder_in_steps_is (suc k) a (suc b) h =
    let below : a % suc b < suc b = mod-lt a (zero-lt-suc b) in
    IsGcd-from_mod a (suc b) (remainder_in_steps k (suc b) (a % suc b)) (remainder_in_steps_is k (suc b) (a % suc b) (omega arith))

pub last_remainder_is : (a b : ℕ) → IsGcd a b (last_remainder a b)
unfolding last_remainder
last_remainder_is a b = remainder_in_steps_is (suc b) a b (omega arith)

-- ---- the greatest number that divides both
dividing : (a b d : ℕ) → divides_both a b d ≡ true → (d ∣ a) × (d ∣ b)
dividing a b d h =
    let p = and_parts (a % d == 0) (b % d == 0) h in
    (dvd_of_mod-eq-zero d (eqb-true (a % d) 0 p.0), dvd_of_mod-eq-zero d (eqb-true (b % d) 0 p.1))

divided : (a b d : ℕ) → d ∣ a → d ∣ b → divides_both a b d ≡ true
divided a b d p q = and_from (a % d == 0) (b % d == 0) (eq-eqb (a % d) 0 (mod-eq-zero_of_dvd d p)) (eq-eqb (b % d) 0 (mod-eq-zero_of_dvd d q))

greatest_is : (a b g n : ℕ) → IsGcd a b g → 0 < g → g ≤ n → greatest_divisor a b n ≡ g
unfolding greatest_divisor
greatest_is a b g zero h some most = absurd (omega arith)
greatest_is a b g (suc n) h some most = at (divides_both a b (suc n)) refl (greatest_is a b g n h some)
  where
    at : (t : Bool) → divides_both a b (suc n) ≡ t → (g ≤ n → greatest_divisor a b n ≡ g) → (if t then suc n else greatest_divisor a b n) ≡ g
    at true e rest =
        let d = dividing a b (suc n) e in
        let least : suc n ≤ g = le_of_dvd some (h.2 (suc n) d.0 d.1) in
        omega arith
    at false e rest = rest (less (cases_lt n g))
      where
        unequal : false ≡ true → ⊥
        unequal e = cc

        less : (n < g) ⊎ (g ≤ n) → g ≤ n
        less (inl l) = let same : g ≡ suc n = omega arith in absurd (unequal (sym e ∙ subst (λ d. divides_both a b d ≡ true) same (divided a b g h.0 h.1)))
        less (inr m) = m

zero_of_zeros : (a b g : ℕ) → IsGcd a b g → a ≡ 0 → b ≡ 0 → g ≡ 0
zero_of_zeros a b g h x y = eq-zero_of_zero-dvd (h.2 0 (subst (λ z. 0 ∣ z) (sym x) (dvd-zero 0)) (subst (λ z. 0 ∣ z) (sym y) (dvd-zero 0)))

pub gcd_is_last_remainder : (a b : ℕ) → gcd a b ≡ last_remainder a b
unfolding gcd greatest_divisor
gcd_is_last_remainder a b = ⊎_elim (none a b (last_remainder a b) (last_remainder_is a b)) (some a b (last_remainder a b) (last_remainder_is a b)) (eq-zero-or-pos (last_remainder a b))
  where
    none : (a b g : ℕ) → IsGcd a b g → g ≡ 0 → greatest_divisor a b (a + b) ≡ g
    none a b g h e =
        let left : a ≡ 0 = eq-zero_of_zero-dvd (subst (λ d. d ∣ a) e h.0) in
        let right : b ≡ 0 = eq-zero_of_zero-dvd (subst (λ d. d ∣ b) e h.1) in
        rw (left, right, e)

    some : (a b g : ℕ) → IsGcd a b g → 0 < g → greatest_divisor a b (a + b) ≡ g
    some a b g h k = greatest_is a b g (a + b) h k (within (eq-zero-or-pos a) (eq-zero-or-pos b))
      where
        within : (a ≡ 0) ⊎ (0 < a) → (b ≡ 0) ⊎ (0 < b) → g ≤ a + b
        within (inl x) (inl y) = let z = zero_of_zeros a b g h x y in absurd (omega arith)
        within (inr x) y = let l = le_of_dvd x h.0 in omega arith
        within x (inr y) = let l = le_of_dvd y h.1 in omega arith

-- it divides both, and every number that divides both divides it
pub gcd_is : (a b : ℕ) → IsGcd a b (gcd a b)
gcd_is a b = subst (IsGcd a b) (sym (gcd_is_last_remainder a b)) (last_remainder_is a b)

-- a greatest common divisor that Euclid's algorithm computes
pub gcd_by_euclid : (a b g : ℕ) → last_remainder a b ≡ g → gcd a b ≡ g
gcd_by_euclid a b g e = gcd_is_last_remainder a b ∙ e
