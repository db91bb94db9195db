-- Fractions of whole numbers, not reduced, and their residues.
use Rattle.std.specs.Prelude.{◌≡◌, ℕ, ◌<◌, ℤ, pos, ◌+ℤ◌, ◌-ℤ◌, ◌*ℤ◌, nat_abs, List, [], ◌∷◌}
use Rattle.std.specs.Int.{◌∣◌}
use Rattle.arithmetic.specs.Numbers.{gcd, power}

-- a fraction, not reduced
pub record Fraction : Type 0 where
  pub top : ℤ
  pub bottom : ℤ

abbrev pub fraction : ℤ → ℤ → Fraction
fraction p q = record { top = p; bottom = q }

abbrev pub times : Fraction → Fraction → Fraction
times f g = fraction (f.top *ℤ g.top) (f.bottom *ℤ g.bottom)

abbrev pub plus : Fraction → Fraction → Fraction
plus f g = fraction (f.top *ℤ g.bottom +ℤ g.top *ℤ f.bottom) (f.bottom *ℤ g.bottom)

-- the product and the sum of a list of fractions
abbrev pub product_of_fractions : List Fraction → Fraction
product_of_fractions [] = fraction (pos 1) (pos 1)
product_of_fractions (f ∷ fs) = times f (product_of_fractions fs)

abbrev pub sum_of_fractions : List Fraction → Fraction
sum_of_fractions [] = fraction (pos 0) (pos 1)
sum_of_fractions (f ∷ fs) = plus f (sum_of_fractions fs)

-- x is the residue of a fraction modulo m
pub record IsResidue (m : ℕ) (f : Fraction) (x : ℕ) : Type 0 where
  pub below : x < m
  pub unit : gcd (nat_abs f.bottom) m ≡ 1
  pub divides : m ∣ nat_abs (pos x *ℤ f.bottom -ℤ f.top)

abbrev pub power_of_fraction : Fraction → ℕ → Fraction
power_of_fraction f n = fraction (power f.top n) (power f.bottom n)
