use Rattle.std.proofs.Common.{◌≤◌, ◌-◌}
use Rattle.localisation.specs.Agreement.{NoneBad}
use Rattle.problem.specs.Problems.{view}
use Rattle.problem.specs.Sums.{is_bad_of, places_of, ArePartialSums, IsEmptyFrom}
use Rattle.range_sum.proofs.range.sum_range.Given as goal

abbrev pub invariant-loop-start : goal.invariant-loop-start
invariant-loop-start l = record {
  from : l.first ≤ l.start;
  to : l.start ≤ l.end;
  none : NoneBad (is_bad_of (view l.problem)) l.first l.start;
  sums : ArePartialSums (view l.problem) l.first l.start l.sums;
  rest : IsEmptyFrom (places_of (view l.problem)) l.sums;
}

abbrev pub decreases-loop-start : goal.decreases-loop-start
decreases-loop-start l = l.end - l.start
