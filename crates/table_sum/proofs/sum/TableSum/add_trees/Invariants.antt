use Rattle.std.proofs.Common.{◌≡◌, ◌≤◌, ◌<◌, ℕ, IsTrue, true, false, slice_index}
use Rattle.trees.specs.Decorated.{is_decorated}
use Rattle.trees.specs.TreeNumbers.{tree_of}
use Rattle.decorated_tree.specs.Trees.{tree_view, is_padded}
use Rattle.localisation.specs.Contribution.{partial_sum}
use Rattle.problem.specs.Problems.{view}
use Rattle.problem.specs.Sums.{places_of}
use Rattle.table_sum.specs.Words.{IsLater, LacksSomeUnit}
use Rattle.table_sum.specs.Sums.{AreSumsBelow, GrowBy, KnowsTrees}
use Rattle.table_sum.proofs.sum.TableSum.add_trees.Given as goal

abbrev pub invariant-loop-k : goal.invariant-loop-k
invariant-loop-k l = record {
  from : l.first ≤ l.k;
  tree : l.k < l.stop → tree_view l.tree ≡ tree_of l.self.problem.now.shape l.k;
  decorated : IsTrue (is_decorated l.self.problem.now.shape (tree_view l.tree));
  marks : l.tree.m ≡ l.self.problem.now.shape.marks;
  padded : IsTrue (is_padded l.tree);
  below : AreSumsBelow l.self.problem.now l.sums;
  added : l.every ≡ true
      → (GrowBy l.self.problem.now (partial_sum l.self.problem.now.setup l.self.problem.now.shape l.first l.k) l.fn.sums l.sums);
  cause : l.every ≡ false → LacksSomeUnit l.self.table.now;
  rest : (place : ℕ) → places_of (view l.self.problem.now) ≤ place
      → slice_index l.sums place ≡ slice_index l.fn.sums place;
  seat : IsLater l.self.table.now l.fn.seat l.seat;
  edges : KnowsTrees (view l.self.problem.now) l.self.table.now l.seat l.first l.k;
}
