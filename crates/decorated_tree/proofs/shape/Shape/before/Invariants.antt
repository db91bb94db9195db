use Rattle.std.proofs.Common.{◌≡◌}
use Rattle.trees.specs.TreeNumbers.{trees_from}
use Rattle.decorated_tree.proofs.shape.Shape.before.Given as goal

abbrev pub invariant-loop-fewer : goal.invariant-loop-fewer
invariant-loop-fewer l = l.before ≡ trees_from l.self 2 l.fewer
