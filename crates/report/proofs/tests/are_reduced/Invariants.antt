use Rattle.std.proofs.Common.{ℕ, ◌<◌, slice_index}
use Rattle.localisation.specs.Agreement.{modulus_at}
use Rattle.report.proofs.tests.are_reduced.Given as goal

abbrev pub invariant-loop-place : goal.invariant-loop-place
invariant-loop-place l = (k : ℕ) → k < l.place → slice_index l.residues k < modulus_at l.problem.moduli k
