-- The residues of one over the number of numberings of n vertices.
use Rattle.std.specs.Prelude.{ℕ, ◌<◌, List, [], length, slice_index, slice_index_or, pos, Result, Ok}
use Rattle.arithmetic.specs.Numbers.{factorial}
use Rattle.arithmetic.specs.Fractions.{Fraction, fraction}
use Rattle.residue.specs.declared.errors.NoUnit.{NoUnit}
use Rattle.residue.specs.Answers.{GivesResidue}

-- 1 over n!
abbrev pub one_numbering : ℕ → Fraction
one_numbering n = fraction (pos 1) (pos (factorial n))

-- the answer for n in a row of answers
abbrev pub answer_at : List (Result ℕ NoUnit) → ℕ → Result ℕ NoUnit
answer_at row n = slice_index_or row n (Ok 0)

-- the answers for each n up to 11 modulo m
pub record AreInverses (m : ℕ) (row : List (Result ℕ NoUnit)) : Type 0 where
  pub each : (n : ℕ) → n < 12 → GivesResidue m (one_numbering n) (answer_at row n)

-- a row for each modulus
pub record AreNumberings (ms : List ℕ) (rows : List (List (Result ℕ NoUnit))) : Type 0 where
  pub each : (index : ℕ) → index < length ms → AreInverses (slice_index ms index) (slice_index_or rows index [])
