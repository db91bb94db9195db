use Rattle.std.proofs.Common.{◌≡◌, drop}
use Rattle.std.specs.List.{list_any}
use Rattle.decorated_tree.specs.Following.{joins_colour}
use Rattle.decorated_tree.proofs.following.has_neighbour_of.Given as goal

abbrev pub invariant-loop-edge : goal.invariant-loop-edge
invariant-loop-edge l =
    list_any (joins_colour l.last l.colour l.colours) (drop l.edge-index l.edges) ≡ list_any
    (joins_colour l.last l.colour l.colours) l.edges
