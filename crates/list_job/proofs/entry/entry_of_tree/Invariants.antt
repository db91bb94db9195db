use Rattle.std.proofs.Common.{◌≡◌, ◌≤◌, ◌<◌, ℕ, ◌%◌, length, slice_index}
use Rattle.decorated_tree.specs.Trees.{tree_view}
use Rattle.localisation.specs.Contribution.{contribution}
use Rattle.localisation.specs.Agreement.{modulus_at, integral_at}
use Rattle.table_sum.specs.Words.{IsLater}
use Rattle.table_sum.specs.Trees.{KnowsEdges}
use Rattle.table_sum.specs.Sums.{problem_of, table_of}
use Rattle.list_job.specs.Entries.{no_residue, Tells}
use Rattle.list_job.proofs.entry.entry_of_tree.Given as goal

abbrev pub invariant-loop-place : goal.invariant-loop-place
invariant-loop-place l = record {
  size : length l.values ≡ 64;
  seat : IsLater (table_of l.sum) l.fn.seat l.seat;
  told : (q : ℕ) → q < l.place → Tells (modulus_at (problem_of l.sum).moduli q)
      (contribution (problem_of l.sum).setup (integral_at (problem_of l.sum).moduli (problem_of l.sum).integrals q) (tree_view l.tree))
      (slice_index l.values q);
  rest : (q : ℕ) → l.place ≤ q → q < 64 → slice_index l.values q ≡ no_residue;
  edges : (q : ℕ) → q < l.place
      → KnowsEdges l.seat (table_of l.sum) (tree_view l.tree) (q % length (problem_of l.sum).moduli);
}
