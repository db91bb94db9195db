-- Steps of the loops that raise to a power and look for an inverse.
use Rattle.std.proofs.Common.{refl, ◌≡◌, ◌≢◌, ℕ, ◌+◌, ◌-◌, ◌*◌, ◌/◌, ◌%◌, ◌^◌, ◌<◌, ◌≤◌, zero, suc, sym, ap, ◌∙◌, arith, mod-lt, mul_assoc, mul-one, mod-eq_of_lt}
use Rattle.std.proofs.lemmas.Nat.{mul-pow, pow-add}
use Rattle.std.proofs.Math.Nat.{pow-succ', pow-zero, mod-mod}
use Rattle.arithmetic.proofs.Divisors.{inverse_step}
use Rattle.arithmetic.proofs.Congruences.{Same, same_refl, same_of_eq, same_trans, same_mul, same_mod, same_pow}

square : (s k : ℕ) → (s * s) ^ k ≡ s ^ (k + k)
square s k = mul-pow s s k ∙ sym (pow-add s k k)

-- the square's power is the power by twice the exponent
same_square : (m s k : ℕ) → Same m (((s * s) % m) ^ k) (s ^ (k + k))
same_square m s k = same_trans (same_pow m (s * s) k) (same_of_eq m _ _ (square s k))

pub even_step : (m r s left next : ℕ) → left % 2 ≢ 1 → next ≡ (s * s) % m → (r * next ^ (left / 2)) % m ≡ (r * s ^ left) % m
even_step m r s left next even e =
    let twice : left / 2 + left / 2 ≡ left = omega arith in
    rw e (same_mul (same_refl m r) (same_trans (same_square m s (left / 2)) (same_of_eq m _ _ (ap (λ k. s ^ k) twice)))).is

pub odd_step : (m r s left next more : ℕ) → left % 2 ≡ 1 → next ≡ (s * s) % m → more ≡ (r * s) % m → (more * next ^ (left / 2)) % m ≡ (r * s ^ left) % m
odd_step m r s left next more odd e f =
    let twice : left ≡ suc (left / 2 + left / 2) = omega arith in
    let power : r * s * s ^ (left / 2 + left / 2) ≡ r * s ^ left =
    mul_assoc r s (s ^ (left / 2 + left / 2)) ∙ ap (λ x. r * x) (sym (ap (λ k. s ^ k) twice ∙ pow-succ' s (left / 2 + left / 2))) in
    rw (e, f) (same_trans (same_mul (same_mod m (r * s)) (same_square m s (left / 2))) (same_of_eq m _ _ power)).is

pub first_step : (m r s x n : ℕ) → r ≡ 1 → s ≡ x → (r * s ^ n) % m ≡ (x ^ n) % m
first_step m r s x n e f = rw (e, f) (ap (λ y. y % m) (let l : 1 * x ^ n ≡ x ^ n = omega arith in l))

-- the powers of 1 are 1
pub power_of_one : (m x n : ℕ) → 3 ≤ m → x ≡ 1 → 1 ≡ (x ^ n) % m
power_of_one m x n h e = sym (rw e (ap (λ y. y % m) (one_to n) ∙ mod-eq_of_lt (omega arith)))
  where
    one_to : (n : ℕ) → 1 ^ n ≡ 1
    one_to zero = pow-zero 1
    one_to (suc n) = pow-succ' 1 n ∙ ap (λ y. 1 * y) (one_to n)

pub below_by : (m self next z : ℕ) → m ≡ self → next ≡ z % self → 0 < m → next < m
below_by m self next z e f h = rw (f, ← e) (mod-lt z h)

-- one step of the extended algorithm, whose modulus is read twice
pub inverse_step_at : (m self x a b q s t product next : ℕ) → m ≡ self → t < m → (s * x) % m ≡ a % m → (t * x) % m ≡ b % m
    → q ≡ a / b % self → product ≡ (q * t) % self → next ≡ (s + (self - product)) % self → (next * x) % m ≡ (a % b) % m
inverse_step_at m self x a b q s t product next e below hs ht hq f g =
    inverse_step m x a b s t next below hs ht
    (g ∙ ap (λ n. (s + (self - n)) % self) (f ∙ ap (λ n. (n * t) % self) hq) ∙ ap (λ n. (s + (n - ((a / b % n) * t) % n)) % n) (sym e))

pub last_step : (m r s left w : ℕ) → left ≤ 0 → r < m → (r * s ^ left) % m ≡ w → r ≡ w
last_step m r s left w none below e =
    let at : left ≡ 0 = omega arith in
    sym (mod-eq_of_lt below) ∙ ap (λ x. x % m) (sym (ap (λ k. r * s ^ k) at ∙ ap (λ n. r * n) (pow-zero s) ∙ mul-one r)) ∙ e

-- one power is left
pub last_odd_step : (m r s left w : ℕ) → left ≡ 1 → (r * s ^ left) % m ≡ w → (r * s) % m ≡ w
last_odd_step m r s left w one e = ap (λ y. (r * y) % m) (sym (ap (λ k. s ^ k) one ∙ once s)) ∙ e
  where
    once : (s : ℕ) → s ^ 1 ≡ s
    once s = pow-succ' s 0 ∙ ap (λ y. s * y) (pow-zero s) ∙ mul-one s

-- top times the inverse of bottom, times bottom, is top
pub quotient_is : (m top bottom inverse x : ℕ) → top < m → (bottom * inverse) % m ≡ 1 → x ≡ (top * inverse) % m → (x < m) × ((x * bottom) % m ≡ top)
quotient_is m top bottom inverse x below e f = (
  below_by m m x (top * inverse) refl f (omega arith),
  (same_trans (same_mul (same_trans (same_of_eq m x _ f) (same_mod m (top * inverse))) (same_refl m bottom))
      (same_trans (same_of_eq m _ _ (turned top inverse bottom)) (same_trans (same_mul (same_refl m top) (record { is = e ∙ one m bottom inverse e })) (same_of_eq m _ _ (mul-one top))))).is
      ∙ mod-eq_of_lt below,
)
  where
    turned : (t i b : ℕ) → t * i * b ≡ t * (b * i)
    turned t i b = omega arith

    one : (m bottom inverse : ℕ) → (bottom * inverse) % m ≡ 1 → 1 ≡ 1 % m
    one m bottom inverse e = sym e ∙ sym (mod-mod (bottom * inverse) m) ∙ ap (λ n. n % m) e
