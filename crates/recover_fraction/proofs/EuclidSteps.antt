-- The only fraction within bounds that has a residue is the one at which Euclid's algorithm first falls to the bound.
use Rattle.std.proofs.Common.{◌≡◌, ℕ, zero, suc, ◌+◌, ◌*◌, ◌<◌, ◌≤◌, ap, arith, mul-le-mul, zero-lt-suc}
use Rattle.std.proofs.Math.Nat.{eq_of_mul-eq-mul_right, le-mul_of_pos_right}

-- a step of Euclid's algorithm on the modulus m, at the bounds a and b: the last remainder above a, the first that is not, and the sizes of their factors
pub record IsStep (m a b last next last_factor next_factor : ℕ) : Type 0 where
  pub whole : last * next_factor + next * last_factor ≡ m
  pub above : a < last
  pub within : next ≤ a
  pub bounds : 2 * (a * b) < m

module _ (m a b last next last_factor next_factor : ℕ) (s : IsStep m a b last next last_factor next_factor) where
  some : 0 < m
  some = let h = s.bounds in omega arith

  product_bound : (x y : ℕ) → x ≤ a → y ≤ b → x * y ≤ a * b
  product_bound x y p q = mul-le-mul p q

  -- the top has the sign of the next factor: n and q are the same multiple of the step's numbers
  pub same_sign : (n q k k' : ℕ) → n ≤ a → q ≤ b → n * next_factor ≡ q * next + k * m → n * last_factor + q * last ≡ k' * m → (n ≡ next * k') × (q ≡ next_factor * k')
  same_sign n q k k' hn hq e f = finish k top bottom
    where
      bottom : q + k * last_factor ≡ next_factor * k'
      bottom =
          eq_of_mul-eq-mul_right m some (q + k * last_factor) (next_factor * k')
          (omega (arith, ap (λ x. x * q) s.whole, ap (λ x. x * last_factor) e, ap (λ x. x * next_factor) f))

      top : n ≡ last * k + next * k'
      top =
          eq_of_mul-eq-mul_right m some n (last * k + next * k')
          (omega (arith, ap (λ x. x * n) s.whole, ap (λ x. x * last) e, ap (λ x. x * next) f))

      finish : (k : ℕ) → n ≡ last * k + next * k' → q + k * last_factor ≡ next_factor * k' → (n ≡ next * k') × (q ≡ next_factor * k')
      finish zero t u = (omega arith, omega arith)
      finish (suc k) t u = let h = s.above in absurd (omega (arith, le-mul_of_pos_right last (zero-lt-suc k)))

  -- the first product is never below the second
  pub not_below : (n q h : ℕ) → q ≤ b → q * next ≡ n * next_factor + suc h * m → ⊥
  not_below n q h hq e =
      let bound = product_bound next q s.within hq in
      let limit = s.bounds in absurd (omega (arith, le-mul_of_pos_right m (zero-lt-suc h)))

  -- the top never has the other sign
  pub other_sign : (n q k k' : ℕ) → 1 ≤ n → n ≤ a → q ≤ b → n * next_factor + q * next ≡ k * m → q * last ≡ n * last_factor + k' * m → ⊥
  other_sign n q k k' pn hn hq e f = finish k k' top bottom e
    where
      bottom : q ≡ next_factor * k' + last_factor * k
      bottom =
          eq_of_mul-eq-mul_right m some q (next_factor * k' + last_factor * k)
          (omega (arith, ap (λ x. x * q) s.whole, ap (λ x. x * last_factor) e, ap (λ x. x * next_factor) f))

      top : n + next * k' ≡ last * k
      top =
          eq_of_mul-eq-mul_right m some (n + next * k') (last * k)
          (omega (arith, ap (λ x. x * n) s.whole, ap (λ x. x * last) e, ap (λ x. x * next) f))

      finish : (k k' : ℕ) → n + next * k' ≡ last * k → q ≡ next_factor * k' + last_factor * k → n * next_factor + q * next ≡ k * m → ⊥
      finish zero k' t u v = absurd (omega arith)
      finish (suc k) zero t u v = let h = s.above in absurd (omega (arith, le-mul_of_pos_right last (zero-lt-suc k)))
      finish (suc k) (suc k') t u v =
          let factor : next_factor ≤ b = omega (arith, le-mul_of_pos_right next_factor (zero-lt-suc k')) in
          let first = product_bound n next_factor hn factor in
          let second = product_bound next q s.within hq in
          let limit = s.bounds in
          absurd (omega (arith, le-mul_of_pos_right m (zero-lt-suc k)))

  pub other_sign_above : (n q k h : ℕ) → 1 ≤ q → n ≤ a → n * next_factor + q * next ≡ k * m → n * last_factor ≡ q * last + suc h * m → ⊥
  other_sign_above n q k h pq hn e f = finish k top bottom
    where
      bottom : q + next_factor * suc h ≡ last_factor * k
      bottom =
          eq_of_mul-eq-mul_right m some (q + next_factor * suc h) (last_factor * k)
          (omega (arith, ap (λ x. x * q) s.whole, ap (λ x. x * last_factor) e, ap (λ x. x * next_factor) f))

      top : n ≡ last * k + next * suc h
      top =
          eq_of_mul-eq-mul_right m some n (last * k + next * suc h)
          (omega (arith, ap (λ x. x * n) s.whole, ap (λ x. x * last) e, ap (λ x. x * next) f))

      finish : (k : ℕ) → n ≡ last * k + next * suc h → q + next_factor * suc h ≡ last_factor * k → ⊥
      finish zero t u = absurd (omega arith)
      finish (suc k) t u = let g = s.above in absurd (omega (arith, le-mul_of_pos_right last (zero-lt-suc k)))
