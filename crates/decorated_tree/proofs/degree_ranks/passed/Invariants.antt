use Rattle.decorated_tree.proofs.DegreeRanking.{IsPassed}
use Rattle.decorated_tree.proofs.degree_ranks.passed.Given as goal

abbrev pub invariant-loop-first : goal.invariant-loop-first
invariant-loop-first l = IsPassed l.sum l.others l.first l.lists
