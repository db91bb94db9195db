-- The residue of a fraction, if it has one.
use Rattle.std.specs.Prelude.{ℕ, zero, suc, ◌%◌, pos, ◌-ℤ◌, ◌*ℤ◌, nat_abs, Bool, ◌==◌, if◌then◌else◌, Option, Some, None}
use Rattle.arithmetic.specs.Fractions.{Fraction}
use Rattle.localisation.specs.Agreement.{lacks_residue}

-- whether x times the bottom is the top modulo m
abbrev pub is_quotient : ℕ → Fraction → ℕ → Bool
is_quotient m f x = nat_abs (pos x *ℤ f.bottom -ℤ f.top) % m == 0

-- such an x below n, if there is one
unfoldable pub quotient_below : ℕ → Fraction → ℕ → Option ℕ
quotient_below m f zero = None
quotient_below m f (suc n) = if is_quotient m f n then Some n else quotient_below m f n

-- the residue of a fraction modulo m: top / bottom, or none if the bottom and m have a common divisor above 1
unfoldable pub residue_of : ℕ → Fraction → Option ℕ
residue_of m f = if lacks_residue m f then None else quotient_below m f m
