-- Bounds on factorials.
use Rattle.std.proofs.Common.{◌≡◌, ℕ, zero, suc, ◌+◌, ◌-◌, ◌*◌, ◌≤◌, arith, zero-add}
use Rattle.std.proofs.Math.Nat.{mul-le-mul_left}
use Rattle.arithmetic.specs.Numbers.{factorial}

pub factorial_positive : (n : ℕ) → 1 ≤ factorial n
factorial_positive zero = omega arith
factorial_positive (suc n) = let h = factorial_positive n in omega (arith, h)

factorial_rises : (d a : ℕ) → factorial a ≤ factorial (d + a)
factorial_rises zero a = rw zero-add (omega arith)
factorial_rises (suc d) a =
    let h = factorial_rises d a in
    let e : suc d + a ≡ suc (d + a) = omega arith in
    rw e (omega (arith, h))

pub factorial-le : (a b : ℕ) → a ≤ b → factorial a ≤ factorial b
factorial-le a b h = let e : (b - a) + a ≡ b = omega arith in (let r = factorial_rises (b - a) a in rw e at r)

pub factorial-add : (a b : ℕ) → factorial a * factorial b ≤ factorial (a + b)
factorial-add zero b = rw zero-add (omega arith)
factorial-add (suc a) b =
    let e : suc a + b ≡ suc (a + b) = omega arith in
    rw e (step a b (factorial a) (factorial b) (factorial (a + b)) (factorial-add a b))
  where
    step : (a b x y f : ℕ) → x * y ≤ f → suc a * x * y ≤ suc (a + b) * f
    step a b x y f h = omega (arith, mul-le-mul_left a h)

pub factorial_suc : (n : ℕ) → factorial (n + 1) ≡ factorial n * (n + 1)
factorial_suc n = let e : n + 1 ≡ suc n = omega arith in rw e (omega arith)
