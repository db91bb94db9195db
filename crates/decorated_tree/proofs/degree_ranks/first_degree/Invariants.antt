use Rattle.decorated_tree.proofs.DegreeRanking.{IsFirst}
use Rattle.decorated_tree.proofs.degree_ranks.first_degree.Given as goal

abbrev pub invariant-loop-degree : goal.invariant-loop-degree
invariant-loop-degree l = IsFirst l.sum l.others l.rank l.degree l.rest
