-- Newton's iteration for an inverse modulo a power of two.
use Rattle.std.proofs.Common.{◌≡◌, ℕ, ◌+◌, ◌-◌, ◌*◌, ◌/◌, ◌%◌, ◌^◌, ◌<◌, ◌≤◌, sym, ap, subst, ◌∙◌, arith, add-one}
use Rattle.std.specs.Int.{◌∣◌}
use Rattle.std.proofs.lemmas.Nat.{pow-add}
use Rattle.std.proofs.Math.Nat.{div-add-mod, mod-mod_of_dvd, mul-mod_right, two-pow-succ, pow-le-pow_right, dvd-mul_right}
use Rattle.arithmetic.proofs.Congruences.{Same, same_refl, same_of_eq, same_trans, same_add, same_mul, same_mod}

square_divisible : (e p : ℕ) → e % p ≡ 0 → (e * e) % (p * p) ≡ 0
square_divisible e p h =
    let whole : e ≡ p * (e / p) = omega (arith, div-add-mod e p) in
    ap (λ x. x % (p * p)) (ap (λ x. x * x) whole ∙ turned p (e / p)) ∙ mul-mod_right (p * p) (e / p * (e / p))
  where
    turned : (p q : ℕ) → p * q * (p * q) ≡ p * p * (q * q)
    turned p q = omega arith

-- with e one more than m * i, the next product is one less than the square of e
squared : (r m i e next : ℕ) → e ≡ ((m * i) % r + 1) % r → next ≡ (i * ((e + 1) % r)) % r → Same r (m * next + 1) ((m * i + 1) * (m * i + 1))
squared r m i e next he hn =
    let error : Same r e (m * i + 1) = same_trans (same_of_eq r e _ he) (same_trans (same_mod r _) (same_add (same_mod r (m * i)) (same_refl r 1))) in
    let factor : Same r ((e + 1) % r) (m * i + 1 + 1) = same_trans (same_mod r (e + 1)) (same_add error (same_refl r 1)) in
    let is : Same r next (i * (m * i + 1 + 1)) = same_trans (same_of_eq r next _ hn) (same_trans (same_mod r _) (same_mul (same_refl r i) factor)) in
    same_trans (same_add (same_mul (same_refl r m) is) (same_refl r 1)) (same_of_eq r _ _ (turned m i))
  where
    turned : (m i : ℕ) → m * (i * (m * i + 1 + 1)) + 1 ≡ (m * i + 1) * (m * i + 1)
    turned m i = omega arith

-- a power of two up to 2^64 divides 2^64
divides_word : (k : ℕ) → k ≤ 64 → 2 ^ k ∣ 2 ^ 64
divides_word k h =
    let parts : k + (64 - k) ≡ 64 = omega arith in
    subst (λ x. 2 ^ k ∣ x) (sym (pow-add 2 k (64 - k)) ∙ ap (λ n. 2 ^ n) parts) (dvd-mul_right (2 ^ k) (2 ^ (64 - k)))

doubled : (step : ℕ) → 2 ^ 2 ^ (step + 1) ≡ 2 ^ 2 ^ step * 2 ^ 2 ^ step
doubled step = ap (λ n. 2 ^ n) (rw add-one (two-pow-succ step)) ∙ pow-add 2 (2 ^ step) (2 ^ step)

pub newton_step : (step m i e next : ℕ) → step < 6 → e ≡ ((m * i) % 2 ^ 64 + 1) % 2 ^ 64 → next ≡ (i * ((e + 1) % 2 ^ 64)) % 2 ^ 64
    → (m * i + 1) % 2 ^ 2 ^ step ≡ 0 → (m * next + 1) % 2 ^ 2 ^ (step + 1) ≡ 0
newton_step step m i e next few he hn h =
    let at_most : 2 ^ (step + 1) ≤ 2 ^ 6 = pow-le-pow_right {n = 2} (omega arith) {i = step + 1} {j = 6} (omega arith) in
    let divides : 2 ^ 2 ^ (step + 1) ∣ 2 ^ 64 = divides_word (2 ^ (step + 1)) at_most in
    sym (mod-mod_of_dvd (2 ^ 2 ^ (step + 1)) (m * next + 1) divides)
    ∙ ap (λ x. x % 2 ^ 2 ^ (step + 1)) (squared (2 ^ 64) m i e next he hn).is
    ∙ mod-mod_of_dvd (2 ^ 2 ^ (step + 1)) _ divides
    ∙ ap (λ p. ((m * i + 1) * (m * i + 1)) % p) (doubled step)
    ∙ square_divisible (m * i + 1) (2 ^ 2 ^ step) h
