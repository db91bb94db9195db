-- Laws of the greatest common divisor, and of units modulo m.
use Rattle.std.proofs.Common.{◌≡◌, ℕ, zero, suc, ◌+◌, ◌-◌, ◌*◌, ◌/◌, ◌%◌, ◌<◌, refl, sym, ap, subst, ◌∙◌, arith}
use Rattle.std.specs.Int.{◌∣◌, IsGcd}
use Rattle.std.proofs.lemmas.Nat.Gcd.{IsGcd-from_zero, IsGcd-from_mod, IsGcd-swap, same_from_IsGcd}
use Rattle.std.proofs.Math.Nat.{mod-lt, zero-lt-suc, div-add-mod, add-mul-mod_self_left, dvd-mul_right_of_dvd, dvd-add_iff_right, eq-one_of_dvd-one, mod-eq_of_lt}
use Rattle.arithmetic.proofs.Congruences.{Same, same_refl, same_of_eq, same_sym, same_trans, same_add, same_mul, same_mod, same_multiple, same_cancel}
use Rattle.arithmetic.specs.Numbers.{gcd}
use Rattle.arithmetic.proofs.Euclid.{remainder_in_steps, last_remainder, gcd_is_last_remainder}
pub use Rattle.arithmetic.proofs.Euclid.{gcd_is}

pub gcd_from_IsGcd : (a b g : ℕ) → IsGcd a b g → gcd a b ≡ g
gcd_from_IsGcd a b g h = same_from_IsGcd a b (gcd a b) g (gcd_is a b) h

-- g is a sum of multiples of a and b
pub record IsCombination (a b g : ℕ) : Type 0 where
  pub s : ℕ
  pub t : ℕ
  pub s' : ℕ
  pub t' : ℕ
  pub is : a * s + b * t ≡ g + a * s' + b * t'

combination_step : (a b q r g : ℕ) → a ≡ b * q + r → IsCombination b r g → IsCombination a b g
combination_step a b q r g e h = record {
  s = h.t;
  t = h.s + q * h.t';
  s' = h.t';
  t' = h.s' + q * h.t;
  is = rw e (let i = h.is in turned b q r g h.s h.t h.s' h.t' i);
}
  where
    turned : (b q r g s t s' t' : ℕ) → b * s + r * t ≡ g + b * s' + r * t' → (b * q + r) * t + b * (s + q * t') ≡ g + (b * q + r) * t' + b * (s' + q * t)
    turned b q r g s t s' t' i = omega arith

combination_in_steps : (k a b : ℕ) → b < k → IsCombination a b (remainder_in_steps k a b)
combination_in_steps zero a b h = absurd (omega arith)
combination_in_steps (suc k) a zero h = record { s = 1; t = 0; s' = 0; t' = 0; is = omega arith }
combination_in_steps (suc k) a (suc b) h =
    let below : a % suc b < suc b = mod-lt a (zero-lt-suc b) in
    combination_step a (suc b) (a / suc b) (a % suc b) _ (sym (div-add-mod a (suc b))) (combination_in_steps k (suc b) (a % suc b) (omega arith))

pub combination : (a b : ℕ) → IsCombination a b (gcd a b)
unfolding last_remainder
combination a b = subst (IsCombination a b) (sym (gcd_is_last_remainder a b)) (combination_in_steps (suc b) a b (omega arith))

-- x has an inverse modulo m
pub record IsUnit (m x : ℕ) : Type 0 where
  pub inverse : ℕ
  pub is : (x * inverse) % m ≡ 1 % m

pub IsUnit-from_gcd : (m x : ℕ) → 0 < m → gcd x m ≡ 1 → IsUnit m x
IsUnit-from_gcd zero x h e = absurd (omega arith)
IsUnit-from_gcd (suc p) x h e = from (combination x (suc p))
  where
    whole : (g s t s' t' : ℕ) → g ≡ 1 → x * s + suc p * t ≡ g + x * s' + suc p * t' → x * (s + p * s') + suc p * t ≡ 1 + suc p * (t' + x * s')
    whole g s t s' t' e i = omega arith

    from : IsCombination x (suc p) (gcd x (suc p)) → IsUnit (suc p) x
    from c = record {
      inverse = c.s + p * c.s';
      is = sym (add-mul-mod_self_left (x * (c.s + p * c.s')) (suc p) c.t)
          ∙ ap (λ n. n % suc p) (whole (gcd x (suc p)) c.s c.t c.s' c.t' e c.is)
          ∙ add-mul-mod_self_left 1 (suc p) (c.t' + x * c.s');
    }

pub gcd-from_IsUnit : (m x : ℕ) → 1 < m → IsUnit m x → gcd x m ≡ 1
gcd-from_IsUnit m x h u =
    let whole : m * ((x * u.inverse) / m) + 1 ≡ x * u.inverse =
    let one : 1 % m ≡ 1 = mod-eq_of_lt h in omega (arith, div-add-mod (x * u.inverse) m, u.is) in
    let g = gcd_is x m in
    let left : gcd x m ∣ m * ((x * u.inverse) / m) = dvd-mul_right_of_dvd (gcd x m) g.1 _ in
    let both : gcd x m ∣ m * ((x * u.inverse) / m) + 1 = subst (λ n. gcd x m ∣ n) (sym whole) (dvd-mul_right_of_dvd (gcd x m) g.0 _) in
    eq-one_of_dvd-one ((dvd-add_iff_right (gcd x m) left).1 both)

pub gcd-zero : (a : ℕ) → gcd a 0 ≡ a
gcd-zero a = gcd_from_IsGcd a 0 a (IsGcd-from_zero a 0 refl)

pub gcd_comm : (a b : ℕ) → gcd a b ≡ gcd b a
gcd_comm a b = gcd_from_IsGcd a b (gcd b a) (IsGcd-swap b a (gcd b a) (gcd_is b a))

-- one step of Euclid's algorithm
pub gcd-mod : (a b : ℕ) → gcd b (a % b) ≡ gcd a b
gcd-mod a b = sym (gcd_from_IsGcd a b (gcd b (a % b)) (IsGcd-from_mod a b (gcd b (a % b)) (gcd_is b (a % b))))

-- one step of the extended algorithm: s and t stand for the numbers a and b, and next for a % b
pub inverse_step : (m x a b s t next : ℕ) → t < m → (s * x) % m ≡ a % m → (t * x) % m ≡ b % m
    → next ≡ (s + (m - ((a / b % m) * t) % m)) % m → (next * x) % m ≡ (a % b) % m
inverse_step m x a b s t next lt hs ht e =
    (step_by m x a b s t next (a / b) (a % b) (((a / b % m) * t) % m) (div-add-mod a b)
    (mod-lt ((a / b % m) * t) (omega arith)) refl (record { is = hs }) (record { is = ht }) e).is
  where
    rest : (s m u x d : ℕ) → d + u ≡ m → (s + d) * x + u * x ≡ s * x + m * x
    rest s m u x d h = rw (← h) (omega arith)

    turned : (b q r : ℕ) → b * q + r ≡ r + q * b
    turned b q r = omega arith

    step_by : (m x a b s t next q r u : ℕ) → b * q + r ≡ a → u < m → u ≡ ((q % m) * t) % m
        → Same m (s * x) a → Same m (t * x) b → next ≡ (s + (m - u)) % m → Same m (next * x) r
    step_by m x a b s t next q r u parts below ue hs ht e =
        let next_is : Same m (next * x) ((s + (m - u)) * x) =
        same_mul (same_trans (same_of_eq m next _ e) (same_mod m (s + (m - u)))) (same_refl m x) in
        let u_is : Same m (u * x) (q * b) =
        same_trans (same_mul (same_trans (same_of_eq m u _ ue) (same_trans (same_mod m ((q % m) * t)) (same_mul (same_mod m q) (same_refl m t)))) (same_refl m x))
        (same_trans (same_of_eq m (q * t * x) (q * (t * x)) (omega arith)) (same_mul (same_refl m q) ht)) in
        let whole : (s + (m - u)) * x + u * x ≡ s * x + m * x = rest s m u x (m - u) (omega arith) in
        let all : Same m ((s + (m - u)) * x + u * x) a = same_trans (same_of_eq m _ _ whole) (same_trans (same_multiple m (s * x) x) hs) in
        let split : Same m a (r + q * b) = same_of_eq m a (r + q * b) (sym parts ∙ turned b q r) in
        same_cancel (q * b)
        (same_trans (same_add next_is (same_sym u_is)) (same_trans all split))

pub gcd_zero_left : (a b : ℕ) → b ≡ 0 → gcd a b ≡ a
gcd_zero_left a b e = rw e (gcd-zero a)

-- Euclid's algorithm, for `grind`
pub ruleset euclid = (gcd-mod, gcd_zero_left)

-- a unit is cancelled from both sides
pub cancel_unit : (m p s t : ℕ) → 0 < m → gcd p m ≡ 1 → Same m (p * s) (p * t) → Same m s t
cancel_unit m p s t h e k =
    let u = IsUnit-from_gcd m p h e in
    same_trans (same_sym (by_inverse u.inverse u.is s)) (same_trans (same_mul (same_refl m u.inverse) k) (by_inverse u.inverse u.is t))
  where
    by_inverse : (i : ℕ) → (p * i) % m ≡ 1 % m → (s : ℕ) → Same m (i * (p * s)) s
    by_inverse i f s =
        same_trans (same_of_eq m _ _ (turned i p s)) (same_trans (same_mul (record { is = f }) (same_refl m s)) (same_of_eq m _ _ (once s)))
      where
        turned : (i p s : ℕ) → i * (p * s) ≡ p * i * s
        turned i p s = omega arith

        once : (s : ℕ) → 1 * s ≡ s
        once s = omega arith
