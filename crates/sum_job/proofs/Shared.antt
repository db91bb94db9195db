-- What the table of shared factors adds to a part.
use Rattle.std.proofs.Common.{ℕ, ◌+◌, ◌<◌, List, slice_index, sym, subst, arith, mod-lt}
use Rattle.localisation.specs.Contribution.{partial_sum}
use Rattle.localisation.specs.Agreement.{modulus_at}
use Rattle.problem.specs.declared.problem.Problem.{Problem}
use Rattle.problem.specs.Problems.{view}
use Rattle.problem.proofs.ProblemLaws.{modulus_above}
use Rattle.table_sum.specs.Sums.{GrowBy}
use Rattle.sum_job.specs.Parts.{AreReduced, GrewByNumbers}

-- sums that grew through the table grew by the numbers
pub grown : (p : Problem) (start stop : ℕ) (old new : List ℕ)
    → GrowBy p (partial_sum p.setup p.shape start stop) old new
    → GrewByNumbers (view p) start stop old new
grown p start stop old new h place within =
    let here = h place within in record { value = here.value; is_residue = here.is_residue; sum = here.sum }

-- sums that grew are residues
pub grown_reduced : (p : Problem) (start stop : ℕ) (old new : List ℕ) → GrewByNumbers (view p) start stop old new
    → AreReduced (view p) new
grown_reduced p start stop old new h place within =
    let m = modulus_at p.moduli place in
    let here = h place within in
    let above = modulus_above (view p) p.rules place in
    subst (λ x. x < m) (sym here.sum) (mod-lt (slice_index old place + here.value) (omega arith))
