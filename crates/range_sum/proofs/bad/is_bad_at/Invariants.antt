use Rattle.std.proofs.Common.{◌≡◌, ◌<◌, ℕ, false, [], get_or, slice_index}
use Rattle.localisation.specs.Contribution.{contribution}
use Rattle.localisation.specs.Agreement.{lacks_residue}
use Rattle.range_sum.proofs.bad.is_bad_at.Given as goal

abbrev pub invariant-loop-integral : goal.invariant-loop-integral
invariant-loop-integral l = (i : ℕ) → i < l.integral
    → lacks_residue (slice_index l.problem.moduli l.modulus) (contribution l.problem.setup (get_or l.problem.integrals i []) l.parts.tree)
    ≡ false
