-- What a round over the trees of several problems comes to.
use Rattle.std.specs.Prelude.{ℕ, ◌%◌, ◌<◌, List, Option, Some, None, length, slice_index_or, sum_by, All}
use Rattle.arithmetic.specs.Fractions.{IsResidue}
use Rattle.localisation.specs.Contribution.{partial_sum}
use Rattle.localisation.specs.Agreement.{modulus_at, integral_at, NoneBad, IsLeastBad}
use Rattle.problem.specs.Rules.{ProblemView}
use Rattle.problem.specs.Sums.{places_of}
use Rattle.table_sum.specs.declared.sum.TableSum.{TableSum}
use Rattle.cross_job.specs.declared.part.CrossPart.{CrossPart}
use Rattle.cross_job.specs.declared.round.BadNumber.{BadNumber}
use Rattle.cross_job.specs.Cross.{CrossView, view_of, is_bad_for_some, HasColumn}
use Rattle.cross_job.specs.CrossParts.{parts_of, sum_at}
use Rattle.cross_job.specs.Found.{IsFirstBadProblem}

-- All parts together have, for the problem at an index, the residues of the partial sums over the numbers from first to
-- end - 1, for each integral and modulus.
pub record HaveTotal (p : ProblemView) (first end problem : ℕ) (parts : List CrossPart) : Type 0 where
  pub columns : All (λ part. HasColumn p problem (parts_of part)) parts
  pub residues : (place : ℕ) → place < places_of p
      → IsResidue (modulus_at p.moduli place)
      (partial_sum p.weights p.shape first end (integral_at p.moduli p.integrals place))
      (sum_by (sum_at problem place) parts % modulus_at p.moduli place)

-- .. and so for each problem
abbrev pub HaveTotals : CrossView → List CrossPart → Type 0
HaveTotals v parts = (i : ℕ) (s : TableSum) → i < length v.sums
    → HaveTotal (view_of (slice_index_or v.sums i s)) v.first v.end i parts

-- What a round comes to: no number is bad for some of the problems, and all parts together have the sums of each problem;
-- or the least number that is bad for some of them, and the first of those.
abbrev pub IsRoundOf : CrossView → List CrossPart → Option BadNumber → Type 0
IsRoundOf v parts None = NoneBad (is_bad_for_some v.sums) v.first v.end × HaveTotals v parts
IsRoundOf v parts (Some bad) =
    IsLeastBad (is_bad_for_some v.sums) v.first v.end bad.number × IsFirstBadProblem v.sums bad.number bad.first
