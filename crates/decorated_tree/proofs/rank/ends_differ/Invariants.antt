use Rattle.std.proofs.Common.{◌≡◌, drop}
use Rattle.std.specs.List.{list_all}
use Rattle.trees.specs.Decorated.{ends_differ}
use Rattle.decorated_tree.proofs.rank.ends_differ.Given as goal

abbrev pub invariant-loop-edge : goal.invariant-loop-edge
invariant-loop-edge l =
    list_all (ends_differ l.colours) (drop l.edge-index l.edges) ≡ list_all (ends_differ l.colours) l.edges
