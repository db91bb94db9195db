use Rattle.std.proofs.Common.{◌≡◌, ◌<◌, ◌≤◌, ℕ, ◌+◌, ◌%◌, slice_index, length, take}
use Rattle.std.specs.Prelude.{sum_by}
use Rattle.localisation.specs.Agreement.{modulus_at}
use Rattle.problem.specs.Problems.{view}
use Rattle.problem.specs.Sums.{places_of}
use Rattle.sum_job.specs.Parts.{AreReduced}
use Rattle.cross_job.specs.CrossParts.{sum_at}
use Rattle.cross_job.proofs.column.add_column.Given as goal

abbrev pub invariant-loop-part : goal.invariant-loop-part
invariant-loop-part l = record {
  size : length l.residues ≡ length l.initial.residues;
  added : (q : ℕ) → q < places_of (view l.problem)
      → slice_index l.residues q
      ≡ (slice_index l.initial.residues q + sum_by (sum_at l.index q) (take l.part-index l.parts)) % modulus_at l.problem.moduli q;
  reduced : AreReduced (view l.problem) l.residues;
  rest : (q : ℕ) → places_of (view l.problem) ≤ q → slice_index l.residues q ≡ slice_index l.initial.residues q;
}
