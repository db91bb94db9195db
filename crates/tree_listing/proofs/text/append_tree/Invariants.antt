use Rattle.std.specs.List.{flat_map}
use Rattle.std.proofs.Common.{◌≡◌, ◌++◌, ◌-◌, length}
use Rattle.lists.specs.Ranges.{counted_from}
use Rattle.trees.specs.TreeNumbers.{tree_of}
use Rattle.problem.specs.Problems.{view}
use Rattle.tree_listing.specs.Texts.{contribution_lines}
use Rattle.tree_listing.proofs.text.append_tree.Given as goal

abbrev pub invariant-loop-integral : goal.invariant-loop-integral
invariant-loop-integral l =
    l.text.items ++ flat_map (contribution_lines (view l.problem) (tree_of l.problem.shape l.entry.number)) (counted_from l.integral (length l.problem.integrals - l.integral))
    ≡ l.initial.text.items ++ flat_map (contribution_lines (view l.problem) (tree_of l.problem.shape l.entry.number)) (counted_from 0 (length l.problem.integrals))
