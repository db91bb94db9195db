use Rattle.std.proofs.Common.{◌≡◌, ◌<◌, ◌≤◌, ℕ, slice_index, length}
use Rattle.localisation.specs.Contribution.{partial_sum}
use Rattle.localisation.specs.Agreement.{modulus_at, integral_at}
use Rattle.range_sum.specs.Totals.{AddsResidue}
use Rattle.range_sum.proofs.block.add_block.Given as goal

abbrev pub invariant-loop-place : goal.invariant-loop-place
invariant-loop-place l = record {
  size : length l.sums ≡ 64;
  added : (q : ℕ) → q < l.place → AddsResidue (modulus_at l.problem.moduli q)
      (partial_sum l.problem.setup l.problem.shape l.start l.stop (integral_at l.problem.moduli l.problem.integrals q))
      (slice_index l.initial.sums q) (slice_index l.sums q);
  rest : (q : ℕ) → l.place ≤ q → slice_index l.sums q ≡ slice_index l.initial.sums q;
}
