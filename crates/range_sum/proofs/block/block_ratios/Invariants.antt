use Rattle.std.proofs.Common.{◌≡◌, ◌≤◌, ◌<◌, IsTrue}
use Rattle.trees.specs.Decorated.{is_decorated}
use Rattle.trees.specs.TreeNumbers.{tree_of}
use Rattle.decorated_tree.specs.Trees.{tree_view, is_padded}
use Rattle.localisation.specs.Contribution.{partial_sum}
use Rattle.range_sum.specs.Totals.{AreRatiosOf}
use Rattle.range_sum.proofs.block.block_ratios.Given as goal

abbrev pub invariant-loop-k : goal.invariant-loop-k
invariant-loop-k l = record {
  from : l.start ≤ l.k;
  tree : l.k < l.stop → tree_view l.tree ≡ tree_of l.problem.shape l.k;
  decorated : IsTrue (is_decorated l.problem.shape (tree_view l.tree));
  marks : l.tree.m ≡ l.problem.shape.marks;
  padded : IsTrue (is_padded l.tree);
  ratios : AreRatiosOf l.problem.moduli l.problem.integrals (partial_sum l.problem.setup l.problem.shape l.start l.k) l.ratios;
}
