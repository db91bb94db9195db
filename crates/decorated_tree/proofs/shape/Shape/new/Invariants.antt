use Rattle.decorated_tree.specs.Shapes.{shape_of}
use Rattle.decorated_tree.proofs.Counts.{AreCounted}
use Rattle.decorated_tree.proofs.shape.Shape.new.Given as goal

abbrev pub invariant-loop-n : goal.invariant-loop-n
invariant-loop-n l = AreCounted (shape_of l.r l.d l.m) l.n l.counts l.count
