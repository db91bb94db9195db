use Rattle.decorated_tree.proofs.NextDegrees.{AreOnesFrom}
use Rattle.decorated_tree.proofs.following.next_degrees.Given as goal

abbrev pub invariant-loop-place : goal.invariant-loop-place
invariant-loop-place l = AreOnesFrom l.place l.fn.degrees l.degrees
