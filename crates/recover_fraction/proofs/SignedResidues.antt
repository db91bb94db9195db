-- Numbers that are multiples of x modulo m, with a sign.
use Rattle.std.proofs.Common.{◌≡◌, ℕ, zero, suc, ◌+◌, ◌-◌, ◌*◌, ◌/◌, ◌%◌, ◌<◌, Bool, true, false, not, ℤ, pos, negsuc, ◌-ℤ◌, ◌*ℤ◌, nat_abs, neg_ℤ, if◌then◌else◌, refl, sym, ap, ◌∙◌, arith}
use Rattle.std.specs.Int.{◌∣◌}
use Rattle.std.proofs.Math.Nat.{div-add-mod, mod-eq_of_lt, mod-lt}
use Rattle.arithmetic.specs.Numbers.{reduce}
use Rattle.arithmetic.proofs.ReduceLaws.{same_from_divides, divides_from_same, reduce-pos, reduce-negsuc}
use Rattle.arithmetic.proofs.Congruences.{Same, same_refl, same_of_eq, same_sym, same_trans, same_add, same_mul, same_multiple, same_cancel}

-- r leaves what t x leaves modulo m or, if the sign is negative, what -t x leaves
pub data IsTimes (m x r t : ℕ) : Bool → Type 0 where
  plus : Same m r (t * x) → IsTimes m x r t false
  minus : Same m (r + t * x) 0 → IsTimes m x r t true

-- two of one sign: the products across leave the same
pub across_same : (m x r t n q : ℕ) (s : Bool) → IsTimes m x r t s → IsTimes m x n q s → Same m (n * t) (q * r)
across_same m x r t n q false (plus h) (plus k) =
    same_trans (same_mul k (same_refl m t)) (same_trans (same_of_eq m _ _ (turned q x t)) (same_mul (same_refl m q) (same_sym h)))
  where
    turned : (q x t : ℕ) → q * x * t ≡ q * (t * x)
    turned q x t = omega arith
across_same m x r t n q true (minus h) (minus k) =
    same_cancel (t * (q * x))
    (same_trans (same_of_eq m _ _ (left n t q x))
    (same_trans (same_mul (same_refl m t) k)
    (same_trans (same_of_eq m _ _ (nothing t q)) (same_trans (same_sym (same_mul (same_refl m q) h)) (same_of_eq m _ _ (right q r t x))))))
  where
    left : (n t q x : ℕ) → n * t + t * (q * x) ≡ t * (n + q * x)
    left n t q x = omega arith

    nothing : (t q : ℕ) → t * 0 ≡ q * 0
    nothing t q = omega arith

    right : (q r t x : ℕ) → q * (r + t * x) ≡ q * r + t * (q * x)
    right q r t x = omega arith

-- two of different signs: the products across leave 0 together
pub across_other : (m x r t n q : ℕ) (s : Bool) → IsTimes m x r t s → IsTimes m x n q (not s) → Same m (n * t + q * r) 0
across_other m x r t n q false (plus h) (minus k) =
    same_trans (same_add (same_refl m (n * t)) (same_mul (same_refl m q) h))
    (same_trans (same_of_eq m _ _ (turned n t q x)) (same_trans (same_mul (same_refl m t) k) (same_of_eq m _ _ (nothing t))))
  where
    turned : (n t q x : ℕ) → n * t + q * (t * x) ≡ t * (n + q * x)
    turned n t q x = omega arith

    nothing : (t : ℕ) → t * 0 ≡ 0
    nothing t = omega arith
across_other m x r t n q true (minus h) (plus k) =
    same_trans (same_add (same_mul k (same_refl m t)) (same_refl m (q * r)))
    (same_trans (same_of_eq m _ _ (turned t q x r)) (same_trans (same_mul (same_refl m q) h) (same_of_eq m _ _ (nothing q))))
  where
    turned : (t q x r : ℕ) → q * x * t + q * r ≡ q * (r + t * x)
    turned t q x r = omega arith

    nothing : (q : ℕ) → q * 0 ≡ 0
    nothing q = omega arith

-- one step of Euclid's algorithm turns the sign
pub times_step : (m x a b t' t : ℕ) (s : Bool) → IsTimes m x a t' (not s) → IsTimes m x b t s → IsTimes m x (a % b) (t' + a / b * t) (not s)
times_step m x a b t' t false (minus h) (plus k) =
    minus (same_trans (same_of_eq m _ _ (left (a % b) t' (a / b) t x))
    (same_trans (same_add (same_refl m (a % b + t' * x)) (same_mul (same_refl m (a / b)) (same_sym k)))
    (same_trans (same_of_eq m _ _ (right (a % b) t' (a / b) b x a (div-add-mod a b))) h)))
  where
    left : (r t' q t x : ℕ) → r + (t' + q * t) * x ≡ r + t' * x + q * (t * x)
    left r t' q t x = omega arith

    right : (r t' q b x a : ℕ) → b * q + r ≡ a → r + t' * x + q * b ≡ a + t' * x
    right r t' q b x a e = omega arith
times_step m x a b t' t true (plus h) (minus k) =
    plus (same_cancel (a / b * b)
    (same_trans (same_of_eq m _ _ (left (a % b) (a / b) b a (div-add-mod a b)))
    (same_trans h
    (same_trans (same_of_eq m _ _ (nothing (t' * x) (a / b)))
    (same_trans (same_add (same_refl m (t' * x)) (same_mul (same_refl m (a / b)) (same_sym k)))
    (same_of_eq m _ _ (right t' (a / b) t x b)))))))
  where
    left : (r q b a : ℕ) → b * q + r ≡ a → r + q * b ≡ a
    left r q b a e = omega arith

    nothing : (y q : ℕ) → y ≡ y + q * 0
    nothing y q = omega arith

    right : (t' q t x b : ℕ) → t' * x + q * (b + t * x) ≡ (t' + q * t) * x + q * b
    right t' q t x b = omega arith

-- ---- whole numbers
-- n, or -n if the sign is negative
abbrev pub signed : Bool → ℕ → ℤ
signed false n = pos n
signed true zero = pos 0
signed true (suc n) = negsuc n

pub signed_is : (s : Bool) (n : ℕ) → (if s then neg_ℤ (pos n) else pos n) ≡ signed s n
signed_is false n = refl
signed_is true zero = refl
signed_is true (suc n) = refl

pub size_of_signed : (s : Bool) (n : ℕ) → nat_abs (signed s n) ≡ n
size_of_signed false n = refl
size_of_signed true zero = refl
size_of_signed true (suc n) = refl

-- what negsuc k leaves, and one more than k, leave 0 together
completed : (m k y : ℕ) → 0 < m → y % m ≡ m - 1 - k % m → Same m (suc k + y) 0
completed m k y h e =
    let below : k % m < m = mod-lt k h in
    same_trans (same_of_eq m _ _ (whole m k y (k / m) (k % m) (y / m) (y % m) (div-add-mod k m) (div-add-mod y m) below e))
    (same_multiple m 0 (k / m + y / m + 1))
  where
    whole : (m k y p r q s : ℕ) → m * p + r ≡ k → m * q + s ≡ y → r < m → s ≡ m - 1 - r → suc k + y ≡ 0 + m * (p + q + 1)
    whole m k y p r q s e f l g = let j : s + 1 + r ≡ m = omega arith in omega arith

pub completing : (m k y : ℕ) → 0 < m → Same m (suc k + y) 0 → y % m ≡ m - 1 - k % m
completing m k y h e =
    let below : k % m < m = mod-lt k h in
    let less : m - 1 - k % m < m = omega arith in
    (same_cancel (suc k)
    (same_trans (same_of_eq m _ _ (turned y k))
    (same_trans e (same_trans (same_sym (same_multiple m 0 (k / m + 1))) (same_of_eq m _ _ (whole m k (k / m) (k % m) (div-add-mod k m) below)))))).is
    ∙ mod-eq_of_lt less
  where
    turned : (y k : ℕ) → y + suc k ≡ suc k + y
    turned y k = omega arith

    whole : (m k p r : ℕ) → m * p + r ≡ k → r < m → 0 + m * (p + 1) ≡ m - 1 - r + suc k
    whole m k p r e l = omega arith

-- a pair whose residue is x
pub times_from_divides : (m x q : ℕ) (p : ℤ) → 0 < m → m ∣ nat_abs (pos q *ℤ pos x -ℤ p)
    → ((n : ℕ) → p ≡ pos n → IsTimes m x n q false) × ((n : ℕ) → p ≡ negsuc n → IsTimes m x (suc n) q true)
times_from_divides m x q p h d =
    let same : reduce m (pos q *ℤ pos x) ≡ reduce m p = same_from_divides m (pos q *ℤ pos x) p h d in (
      λ n e. plus (record { is = sym (reduce-pos m n) ∙ sym (ap (reduce m) e) ∙ sym same ∙ reduce-pos m (q * x) }),
      λ n e. minus (completed m n (q * x) h (sym (reduce-pos m (q * x)) ∙ same ∙ ap (reduce m) e ∙ reduce-negsuc m n)),
    )

pub divides_from_times : (m x r t : ℕ) (s : Bool) → 0 < m → IsTimes m x r t s → m ∣ nat_abs (pos t *ℤ pos x -ℤ signed s r)
divides_from_times m x r t false h (plus k) =
    divides_from_same m (pos t *ℤ pos x) (pos r) h (reduce-pos m (t * x) ∙ sym k.is ∙ sym (reduce-pos m r))
divides_from_times m x zero t true h (minus k) =
    divides_from_same m (pos t *ℤ pos x) (pos 0) h (reduce-pos m (t * x) ∙ (same_trans (same_of_eq m _ _ (nothing (t * x))) k).is ∙ sym (reduce-pos m 0))
  where
    nothing : (y : ℕ) → y ≡ 0 + y
    nothing y = omega arith
divides_from_times m x (suc n) t true h (minus k) =
    divides_from_same m (pos t *ℤ pos x) (negsuc n) h (reduce-pos m (t * x) ∙ completing m n (t * x) h k ∙ sym (reduce-negsuc m n))
