-- Products of limited numbers, and numbers by their digits.
use Rattle.std.proofs.Common.{◌≡◌, ℕ, suc, ◌+◌, ◌*◌, ◌<◌, ◌≤◌, ap, suc-mul, mul-le-mul_right, arith}
use Rattle.std.proofs.Math.Nat.{mul-le-mul_left}
use mathlib.Core.Logic.{dite}
use native.Mathlib.Decide.{dec_lt}

pub product_le : (a b c d : ℕ) → a ≤ b → c ≤ d → a * c ≤ b * d
product_le a b c d h k =
    let x : a * c ≤ b * c = mul-le-mul_right c h in let y : b * c ≤ b * d = mul-le-mul_left b k in omega arith

-- a digit below its base, behind a number below its limit
pub digit_below : (x y a b : ℕ) → x < a → y < b → x * b + y < a * b
digit_below x y a b h k = let m : suc x * b ≤ a * b = mul-le-mul_right b h in omega (arith, suc-mul x b)

-- a number above another, each with a digit behind it
above : (x y x' y' b : ℕ) → y < b → x < x' → x * b + y < x' * b + y'
above x y x' y' b h k = let m : suc x * b ≤ x' * b = mul-le-mul_right b k in omega (arith, suc-mul x b)

same_number : (x y x' y' b : ℕ) → y < b → y' < b → x * b + y ≡ x' * b + y' → x ≡ x'
same_number x y x' y' b h h' e =
    dite (dec_lt x x') (λ less. let m = above x y x' y' b h less in absurd (omega arith))
    (λ not_less. dite (dec_lt x' x) (λ more. let m = above x' y' x y b h' more in absurd (omega arith)) (λ not_more. omega arith))

-- a number determines its digits
pub digits : (x y x' y' b : ℕ) → y < b → y' < b → x * b + y ≡ x' * b + y' → (x ≡ x') × (y ≡ y')
digits x y x' y' b h h' e =
    let same = same_number x y x' y' b h h' e in let products = ap (λ z. z * b) same in (same, omega arith)
