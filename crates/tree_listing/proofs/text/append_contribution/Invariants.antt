use Rattle.std.specs.List.{flat_map}
use Rattle.std.proofs.Common.{◌≡◌, ◌++◌, drop, [], get_or}
use Rattle.trees.specs.TreeNumbers.{tree_of}
use Rattle.tree_listing.specs.Texts.{contribution_line}
use Rattle.tree_listing.proofs.text.append_contribution.Given as goal

abbrev pub invariant-loop-index : goal.invariant-loop-index
invariant-loop-index l =
    l.text.items ++ flat_map (contribution_line l.problem.setup (get_or l.problem.integrals l.integral []) (tree_of l.problem.shape l.entry.number)) (drop l.index l.moduli)
    ≡ l.initial.text.items ++ flat_map (contribution_line l.problem.setup (get_or l.problem.integrals l.integral []) (tree_of l.problem.shape l.entry.number)) l.moduli
