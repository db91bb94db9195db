use Rattle.std.proofs.Common.{◌≡◌, ◌<◌, ◌≤◌, ℕ, ◌+◌, ◌%◌, slice_index, length}
use Rattle.localisation.specs.Agreement.{modulus_at}
use Rattle.sum_job.proofs.sums.add_residues.Given as goal

abbrev pub invariant-loop-place : goal.invariant-loop-place
invariant-loop-place l = record {
  size : length l.sums ≡ length l.initial.sums;
  added : (q : ℕ) → q < l.place
      → slice_index l.sums q ≡ (slice_index l.initial.sums q + slice_index l.more q) % modulus_at l.problem.moduli q;
  rest : (q : ℕ) → l.place ≤ q → slice_index l.sums q ≡ slice_index l.initial.sums q;
}
