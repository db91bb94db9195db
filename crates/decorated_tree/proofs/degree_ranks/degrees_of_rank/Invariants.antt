use Rattle.decorated_tree.proofs.DegreeRanking.{IsMade}
use Rattle.decorated_tree.proofs.degree_ranks.degrees_of_rank.Given as goal

abbrev pub invariant-loop-place : goal.invariant-loop-place
invariant-loop-place l = IsMade l.count l.sum l.rank l.place l.degrees l.left l.rest
