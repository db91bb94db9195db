-- Congruences modulo a product of coprime numbers, and residues modulo a divisor.
use Rattle.std.proofs.Common.{◌≡◌, ℕ, zero, suc, ◌+◌, ◌-◌, ◌*◌, ◌/◌, ◌%◌, ◌<◌, ℤ, pos, negsuc, refl, sym, ap, ◌∙◌, arith, List, [], ◌∷◌, length, slice_index}
use Rattle.std.proofs.Math.Nat.{div-add-mod, mod-lt, mul-pos}
use Rattle.arithmetic.specs.Numbers.{gcd, reduce}
use Rattle.arithmetic.proofs.Congruences.{Same, same_of_eq, same_sym, same_trans, same_multiple, same_cancel}
use Rattle.arithmetic.proofs.Divisors.{IsUnit-from_gcd, gcd-from_IsUnit, gcd_comm, gcd-mod, gcd-zero, cancel_unit}
use Rattle.arithmetic.proofs.ReduceLaws.{reduce-pos, reduce-negsuc}
use Rattle.arithmetic.proofs.Residues.{IsUnit-mul, unit_one}
use Rattle.lists.specs.Digits.{product_of}
use Rattle.recover_fraction.proofs.SignedResidues.{completing}

pub gcd-mod_left : (a m : ℕ) → gcd (a % m) m ≡ gcd a m
gcd-mod_left a m = gcd_comm (a % m) m ∙ gcd-mod a m

-- a product of two numbers coprime to a third is coprime to it
pub coprime_product : (a b m : ℕ) → gcd a m ≡ 1 → gcd b m ≡ 1 → gcd (a * b) m ≡ 1
coprime_product a b zero e f =
    gcd-zero (a * b) ∙ one a b (sym (gcd-zero a) ∙ e) (sym (gcd-zero b) ∙ f)
  where
    one : (a b : ℕ) → a ≡ 1 → b ≡ 1 → a * b ≡ 1
    one a b e f = rw (e, f) refl
coprime_product a b (suc zero) e f = gcd_comm (a * b) 1 ∙ unit_one (a * b)
coprime_product a b (suc (suc m)) e f =
    let some : 0 < suc (suc m) = omega arith in
    sym (gcd-mod_left (a * b) (suc (suc m)))
    ∙ gcd-from_IsUnit (suc (suc m)) ((a * b) % suc (suc m)) (omega arith)
    (IsUnit-mul (suc (suc m)) a b (IsUnit-from_gcd (suc (suc m)) a some e) (IsUnit-from_gcd (suc (suc m)) b some f))

-- numbers that leave the same modulo each of two coprime numbers do so modulo their product
pub same_product : (p m u v : ℕ) → 0 < m → gcd p m ≡ 1 → Same p u v → Same m u v → Same (p * m) u v
same_product p m u v h e f g =
    let quotients : Same m (u / p) (v / p) =
    cancel_unit m p (u / p) (v / p) h e
    (same_cancel (u % p) (same_trans (same_of_eq m _ _ (div-add-mod u p)) (same_trans g (same_of_eq m _ _ (turned v p (v / p) (v % p) (u % p) (div-add-mod v p) f.is))))) in
    same_trans (reduced u) (same_trans (same_of_eq (p * m) _ _ (parts (u / p % m) (v / p % m) (u % p) (v % p) quotients.is f.is)) (same_sym (reduced v)))
  where
    turned : (v p q r s : ℕ) → p * q + r ≡ v → s ≡ r → v ≡ p * q + s
    turned v p q r s e f = rw f (sym e)

    parts : (y z r s : ℕ) → y ≡ z → r ≡ s → p * y + r ≡ p * z + s
    parts y z r s e f = rw (e, f) refl

    whole : (u p m q r d y : ℕ) → p * q + r ≡ u → m * d + y ≡ q → u ≡ p * y + r + p * m * d
    whole u p m q r d y e f = rw (← e, ← f) (omega arith)

    reduced : (u : ℕ) → Same (p * m) u (p * (u / p % m) + u % p)
    reduced u =
        same_trans (same_of_eq (p * m) _ _ (whole u p m (u / p) (u % p) (u / p / m) (u / p % m) (div-add-mod u p) (div-add-mod (u / p) m)))
        (same_multiple (p * m) _ (u / p / m))

-- what a number leaves modulo a multiple of m is the same modulo m
pub same_of_multiple : (m k x : ℕ) → Same m (x % (m * k)) x
same_of_multiple m k x =
    same_sym (same_trans (same_of_eq m _ _ (turned (x % (m * k)) m k (x / (m * k)) x (div-add-mod x (m * k)))) (same_multiple m _ (k * (x / (m * k)))))
  where
    turned : (r m k q x : ℕ) → m * k * q + r ≡ x → x ≡ r + m * (k * q)
    turned r m k q x e = omega (arith, e)

pub reduce_of_multiple : (m k : ℕ) (z : ℤ) → 0 < m → 0 < m * k → reduce (m * k) z % m ≡ reduce m z
reduce_of_multiple m k (pos n) h l = ap (λ x. x % m) (reduce-pos (m * k) n) ∙ (same_of_multiple m k n).is ∙ sym (reduce-pos m n)
reduce_of_multiple m k (negsuc n) h l =
    ap (λ x. x % m) (reduce-negsuc (m * k) n)
    ∙ completing m n (m * k - 1 - n % (m * k)) h
    (same_trans (same_of_eq m _ _ (whole m k (m * k) n (n / (m * k)) (n % (m * k)) refl (div-add-mod n (m * k)) (mod-lt n l))) (same_multiple m 0 (k * (n / (m * k) + 1))))
    ∙ sym (reduce-negsuc m n)
  where
    whole : (m k w n q r : ℕ) → w ≡ m * k → w * q + r ≡ n → r < w → suc n + (w - 1 - r) ≡ 0 + m * (k * (q + 1))
    whole m k w n q r e f l =
        let sum : suc n + (w - 1 - r) ≡ w * (q + 1) = omega (arith, f, l) in
        sum ∙ ap (λ y. y * (q + 1)) e ∙ omega arith

-- the product of positive numbers is positive
pub product_positive : (ms : List ℕ) → ((i : ℕ) → i < length ms → 0 < slice_index ms i) → 0 < product_of ms
product_positive [] h = omega arith
product_positive (m ∷ ms) h = mul-pos (h 0 (omega arith)) (product_positive ms (λ i l. h (suc i) (omega arith)))
