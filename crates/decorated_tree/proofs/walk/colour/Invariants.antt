use Rattle.std.proofs.Common.{◌≡◌, drop}
use Rattle.trees.specs.Walks.{coloured}
use Rattle.decorated_tree.proofs.walk.colour.Given as goal

abbrev pub invariant-loop-step : goal.invariant-loop-step
invariant-loop-step l =
    coloured (drop l.step-index l.walk) l.digits l.colours ≡ coloured l.walk l.digits l.initial.colours
