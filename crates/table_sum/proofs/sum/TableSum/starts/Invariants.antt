use Rattle.std.proofs.Common.{◌≡◌, ℕ, ◌<◌, length, slice_index, OnErr}
use Rattle.factor_table.specs.Seats.{parameters_of}
use Rattle.table_sum.specs.Words.{MayGive, IsLater, LacksUnit}
use Rattle.table_sum.specs.Trees.{KnowsEdges, tree_start}
use Rattle.table_sum.specs.Numberings.{answer_at}
use Rattle.table_sum.proofs.sum.TableSum.starts.Given as goal

abbrev pub invariant-loop-modulus : goal.invariant-loop-modulus
invariant-loop-modulus l = record {
  size : length l.starts ≡ 8;
  seat : IsLater l.self.table.now l.fn.seat l.seat;
  each : (k : ℕ) → k < l.modulus
      → MayGive (slice_index l.self.problem.now.moduli k) (tree_start l.self.problem.now.setup l.parts.tree) (answer_at l.starts k);
  edges : (k : ℕ) → k < l.modulus → KnowsEdges l.seat l.self.table.now l.parts.tree k;
  refused : (k : ℕ) → k < l.modulus → OnErr (answer_at l.starts k) (LacksUnit (parameters_of l.self.table.now) k);
}
