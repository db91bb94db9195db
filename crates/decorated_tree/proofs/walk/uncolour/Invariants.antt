use Rattle.std.proofs.Common.{◌≡◌, drop}
use Rattle.trees.specs.Walks.{digits_of}
use Rattle.decorated_tree.proofs.walk.uncolour.Given as goal

abbrev pub invariant-loop-step : goal.invariant-loop-step
invariant-loop-step l =
    digits_of (drop l.step-index l.walk) l.colours l.digits ≡ digits_of l.walk l.colours l.initial.digits
