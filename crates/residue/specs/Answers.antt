-- Answers that give the residue of a fraction.
use Rattle.std.specs.Prelude.{◌≢◌, ◌↔◌, ℕ, Result, IfOk, IsErr, nat_abs}
use Rattle.arithmetic.specs.Numbers.{gcd}
use Rattle.arithmetic.specs.Fractions.{Fraction, IsResidue}
use Rattle.residue.specs.declared.errors.NoUnit.{NoUnit}

-- the residue of a fraction modulo m, or that there is none, exactly if its bottom is no unit
pub record GivesResidue (m : ℕ) (f : Fraction) (answer : Result ℕ NoUnit) : Type 0 where
  pub value : IfOk answer (λ x. IsResidue m f x)
  pub refused : IsErr answer ↔ (gcd (nat_abs f.bottom) m ≢ 1)
