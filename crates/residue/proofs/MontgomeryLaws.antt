-- Montgomery's reduction, for a number R that has an inverse modulo m.
use Rattle.std.proofs.Common.{◌≡◌, ℕ, ◌+◌, ◌-◌, ◌*◌, ◌/◌, ◌%◌, ◌^◌, ◌<◌, ◌≤◌, bit_and, sym, ap, ◌∙◌, arith, mod-eq_of_lt}
use Rattle.std.proofs.lemmas.Nat.{and_mask}
use Rattle.std.proofs.Math.Nat.{div-add-mod, mod-mod}
use Rattle.residue.specs.Montgomery.{over_word}
use Rattle.arithmetic.proofs.Congruences.{Same, same_refl, same_of_eq, same_sym, same_trans, same_add, same_mul, same_mod, same_multiple}

-- ---- the sum that the reduction shifts
-- the sum is a multiple of R
divisible : (r m n t q : ℕ) → (m * n + 1) % r ≡ 0 → q ≡ ((t % r) * n) % r → (t + q * m) % r ≡ 0
divisible r m n t q e f =
    (same_trans (same_add (same_refl r t)
    (same_mul (same_trans (same_of_eq r q _ f) (same_trans (same_mod r _) (same_mul (same_mod r t) (same_refl r n)))) (same_refl r m)))
    (same_trans (same_of_eq r _ (t * (m * n + 1)) (whole t n m)) (same_mul (same_refl r t) (record { is = e ∙ zero r m n e })))).is
    ∙ ap (λ x. x % r) (none t) ∙ sym (zero r m n e)
  where
    whole : (t n m : ℕ) → t + t * n * m ≡ t * (m * n + 1)
    whole t n m = omega arith

    none : (t : ℕ) → t * 0 ≡ 0
    none t = omega arith

    zero : (r m n : ℕ) → (m * n + 1) % r ≡ 0 → 0 ≡ 0 % r
    zero r m n e = sym e ∙ sym (mod-mod (m * n + 1) r) ∙ ap (λ x. x % r) e

shifted_value : (r m n t q : ℕ) → (m * n + 1) % r ≡ 0 → q ≡ ((t % r) * n) % r → Same m ((t + q * m) / r * r) t
shifted_value r m n t q e f =
    let whole : (t + q * m) / r * r ≡ t + m * q = omega (arith, div-add-mod (t + q * m) r, divisible r m n t q e f) in
    same_trans (same_of_eq m _ _ whole) (same_multiple m t q)

shifted : (m n t low q : ℕ) → (m * n + 1) % 2 ^ 64 ≡ 0 → low ≡ bit_and t (2 ^ 64 - 1) → q ≡ (low * n) % 2 ^ 64
    → Same m ((t + q * m) / 2 ^ 64 * 2 ^ 64) t
shifted m n t low q e l f = shifted_value (2 ^ 64) m n t q e (f ∙ ap (λ x. (x * n) % 2 ^ 64) (l ∙ and_mask t 64))

shifted_once_less : (m n t low q : ℕ) → (m * n + 1) % 2 ^ 64 ≡ 0 → low ≡ bit_and t (2 ^ 64 - 1) → q ≡ (low * n) % 2 ^ 64
    → m ≤ (t + q * m) / 2 ^ 64 → Same m (((t + q * m) / 2 ^ 64 - m) * 2 ^ 64) t
shifted_once_less m n t low q e l f h =
    same_trans (same_sym (same_multiple m (((t + q * m) / 2 ^ 64 - m) * 2 ^ 64) (2 ^ 64)))
    (same_trans (same_of_eq m _ _ (back ((t + q * m) / 2 ^ 64) m (2 ^ 64) ((t + q * m) / 2 ^ 64 - m) (omega arith))) (shifted m n t low q e l f))
  where
    back : (s m r d : ℕ) → d + m ≡ s → d * r + m * r ≡ s * r
    back s m r d h = rw (← h) (omega arith)

-- ---- one over R
one : (r m n : ℕ) → (m * n + 1) % r ≡ 0 → Same m (r * ((m * n + 1) / r)) 1
one r m n e =
    let unit : r * ((m * n + 1) / r) ≡ 1 + m * n = omega (arith, div-add-mod (m * n + 1) r, e) in
    same_trans (same_of_eq m _ _ unit) (same_multiple m 1 n)

over : (m n t : ℕ) → Same m (over_word m n t) (t * ((m * n + 1) / 2 ^ 64))
unfolding over_word
over m n t = same_mod m (t * ((m * n + 1) / 2 ^ 64))

-- a residue whose product with R leaves t is t over R
from_product : (r m k x t : ℕ) → Same m (r * k) 1 → Same m (x * r) t → Same m x (t * k)
from_product r m k x t unit h =
    same_trans (same_sym (same_trans (same_mul (same_refl m x) unit) (same_of_eq m _ _ (last x))))
    (same_trans (same_of_eq m _ _ (assoc x r k)) (same_mul h (same_refl m k)))
  where
    last : (x : ℕ) → x * 1 ≡ x
    last x = omega arith

    assoc : (x r k : ℕ) → x * (r * k) ≡ x * r * k
    assoc x r k = omega arith

over_word-from : (m n t x : ℕ) → (m * n + 1) % 2 ^ 64 ≡ 0 → x < m → Same m (x * 2 ^ 64) t → x ≡ over_word m n t
unfolding over_word
over_word-from m n t x e below h =
    sym (mod-eq_of_lt below) ∙ (from_product (2 ^ 64) m ((m * n + 1) / 2 ^ 64) x t (one (2 ^ 64) m n e) h).is

pub reduced : (m n t low q : ℕ) → (m * n + 1) % 2 ^ 64 ≡ 0 → low ≡ bit_and t (2 ^ 64 - 1) → q ≡ (low * n) % 2 ^ 64
    → (t + q * m) / 2 ^ 64 < m → (t + q * m) / 2 ^ 64 ≡ over_word m n t
reduced m n t low q e l f below = over_word-from m n t _ e below (shifted m n t low q e l f)

pub reduced_once_less : (m n t low q : ℕ) → (m * n + 1) % 2 ^ 64 ≡ 0 → low ≡ bit_and t (2 ^ 64 - 1) → q ≡ (low * n) % 2 ^ 64
    → m ≤ (t + q * m) / 2 ^ 64 → (t + q * m) / 2 ^ 64 - m < m → (t + q * m) / 2 ^ 64 - m ≡ over_word m n t
reduced_once_less m n t low q e l f above below = over_word-from m n t _ e below (shifted_once_less m n t low q e l f above)

-- ---- what stands in the form
-- a product with the square of R, over R twice, is what it was
twice : (r m k x s : ℕ) → Same m (r * k) 1 → Same m s (r * r) → Same m (x * s * k * k) x
twice r m k x s unit h =
    same_trans (same_mul (same_mul (same_mul (same_refl m x) h) (same_refl m k)) (same_refl m k))
    (same_trans (same_of_eq m _ _ (turned x r k)) (same_trans (same_mul (same_refl m x) (same_mul unit unit)) (same_of_eq m _ _ (last x))))
  where
    turned : (x r k : ℕ) → x * (r * r) * k * k ≡ x * (r * k * (r * k))
    turned x r k = omega arith

    last : (x : ℕ) → x * (1 * 1) ≡ x
    last x = omega arith

square_of_word : (m s : ℕ) → s ≡ 2 ^ 128 % m → Same m s (2 ^ 64 * 2 ^ 64)
square_of_word m s e = same_trans (same_of_eq m s _ e) (same_mod m (2 ^ 128))

-- x enters the form
pub entered : (m n x s f : ℕ) → (m * n + 1) % 2 ^ 64 ≡ 0 → s ≡ 2 ^ 128 % m → x < m → f ≡ over_word m n (x * s) → over_word m n f ≡ x
unfolding over_word
entered m n x s f e square below h =
    let k = (m * n + 1) / 2 ^ 64 in
    (same_trans (same_mul (same_trans (same_of_eq m f _ h) (over m n (x * s))) (same_refl m k))
    (twice (2 ^ 64) m k x s (one (2 ^ 64) m n e) (square_of_word m s square))).is
    ∙ mod-eq_of_lt below

-- a reduced product with a form is the product
pub times_value : (m n x f r : ℕ) → r ≡ over_word m n (x * f) → r ≡ (x * over_word m n f) % m
unfolding over_word
times_value m n x f r h =
    let k = (m * n + 1) / 2 ^ 64 in
    h ∙ (same_trans (same_of_eq m _ _ (turned x f k)) (same_mul (same_refl m x) (same_sym (over m n f)))).is
  where
    turned : (x f k : ℕ) → x * f * k ≡ x * (f * k)
    turned x f k = omega arith

-- a reduced square of a form is the form of the square
pub square_value : (m n f r : ℕ) → r ≡ over_word m n (f * f) → over_word m n r ≡ (over_word m n f * over_word m n f) % m
unfolding over_word
square_value m n f r h =
    let k = (m * n + 1) / 2 ^ 64 in
    (same_trans (same_mul (same_trans (same_of_eq m r _ h) (over m n (f * f))) (same_refl m k))
    (same_trans (same_of_eq m _ _ (turned f k)) (same_sym (same_mul (over m n f) (over m n f))))).is
  where
    turned : (f k : ℕ) → f * f * k * k ≡ f * k * (f * k)
    turned f k = omega arith

-- the sum of two forms is the form of the sum
pub sum_value : (m n f g r : ℕ) → r ≡ (f + g) % m → over_word m n r ≡ (over_word m n f + over_word m n g) % m
unfolding over_word
sum_value m n f g r h =
    let k = (m * n + 1) / 2 ^ 64 in
    (same_trans (same_mul (same_trans (same_of_eq m r _ h) (same_mod m (f + g))) (same_refl m k))
    (same_trans (same_of_eq m _ _ (turned f g k)) (same_sym (same_add (over m n f) (over m n g))))).is
  where
    turned : (f g k : ℕ) → (f + g) * k ≡ f * k + g * k
    turned f g k = omega arith
