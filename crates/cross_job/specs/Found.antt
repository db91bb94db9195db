-- The first problem for which a number is bad.
use Rattle.std.specs.Prelude.{◌≢◌, ℕ, ◌<◌, true, List, length, slice_index_or}
use Rattle.localisation.specs.Agreement.{IsFirstBad}
use Rattle.problem.specs.Sums.{is_bad_of, is_bad_modulo}
use Rattle.table_sum.specs.declared.sum.TableSum.{TableSum}
use Rattle.cross_job.specs.Cross.{view_of}
use Rattle.cross_job.specs.declared.found.BadProblem.{BadProblem}

-- the first of some problems for which a number is bad, with the first of its moduli for which it is
pub record IsFirstBadProblem (sums : List TableSum) (number : ℕ) (bad : BadProblem) : Type 0 where
  pub within : bad.problem < length sums
  pub modulus : (sum : TableSum) → IsFirstBad (is_bad_modulo (view_of (slice_index_or sums bad.problem sum)) number)
      (view_of (slice_index_or sums bad.problem sum)).moduli bad.modulus
  pub first : (i : ℕ) (sum : TableSum) → i < bad.problem → is_bad_of (view_of (slice_index_or sums i sum)) number ≢ true
