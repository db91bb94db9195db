use Rattle.decorated_tree.proofs.Unranking.{IsPlace}
use Rattle.decorated_tree.proofs.shape.Shape.place.Given as goal

abbrev pub invariant-loop-count : goal.invariant-loop-count
invariant-loop-count l = IsPlace l.self l.k l.count-index l.n l.rest
