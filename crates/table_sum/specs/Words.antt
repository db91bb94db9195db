-- What is known after words of a table were asked for.
use Rattle.std.specs.Prelude.{◌≢◌, ℕ, ◌+◌, ◌<◌, ◌≤◌, nat_abs, length, Contains, Result, IfOk}
use Rattle.arithmetic.specs.Numbers.{factorial, gcd}
use Rattle.arithmetic.specs.Fractions.{Fraction, IsResidue}
use Rattle.residue.specs.declared.errors.NoUnit.{NoUnit}
use Rattle.factor_table.specs.declared.key.Key.{Key}
use Rattle.factor_table.specs.declared.parameters.Parameters.{Parameters}
use Rattle.factor_table.specs.declared.table.FactorTable.{FactorTable}
use Rattle.factor_table.specs.declared.table.FactorSeat.{FactorSeat}
use Rattle.factor_table.specs.Factors.{modulus_in, fraction_of, IsKeyOf}
use Rattle.factor_table.specs.Seats.{parameters_of, IsSeatOf, known_of}

-- A number that is answered is the residue of the fraction modulo m. `NoUnit` says nothing of the fraction.
abbrev pub MayGive : ℕ → Fraction → Result ℕ NoUnit → Type 0
MayGive m f answer = IfOk answer (λ x. IsResidue m f x)

-- the seat is one of the table, and knows all that the older one knew
pub record IsLater (t : FactorTable) (old new : FactorSeat) : Type 0 where
  pub seat : IsSeatOf new t
  pub known : (place : ℕ) → Contains (known_of old) place → Contains (known_of new) place

-- For the modulus at an index some fraction that a tree may need has no residue: the factor of a key of the table, or one
-- over n! for the n vertices of a tree.
pub data LacksUnit (p : Parameters) (index : ℕ) : Type 0 where
  at_key : (key : Key) → IsKeyOf p key → gcd (nat_abs (fraction_of p key).bottom) (modulus_in p index) ≢ 1
      → LacksUnit p index
  at_vertices : (n : ℕ) → n ≤ p.degree + 1 → gcd (factorial n) (modulus_in p index) ≢ 1 → LacksUnit p index

-- .. and for some modulus of the table
abbrev pub LacksSomeUnit : FactorTable → Type 0
LacksSomeUnit t = (index : ℕ) × (index < length (parameters_of t).moduli) × LacksUnit (parameters_of t) index
