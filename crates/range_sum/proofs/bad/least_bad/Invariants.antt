use Rattle.localisation.specs.Agreement.{NoneBad}
use Rattle.problem.specs.Problems.{view}
use Rattle.problem.specs.Sums.{is_bad_of}
use Rattle.range_sum.proofs.bad.least_bad.Given as goal

abbrev pub invariant-loop-k : goal.invariant-loop-k
invariant-loop-k l = NoneBad (is_bad_of (view l.problem)) l.start l.k
