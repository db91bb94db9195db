use Rattle.std.proofs.Common.{◌≤◌, ◌-◌}
use Rattle.problem.specs.Problems.{view as problem_view}
use Rattle.factor_table.specs.Seats.{IsSeatOf}
use Rattle.table_sum.specs.Sums.{problem_of, table_of}
use Rattle.job_batch.proofs.LoneRuns.{HasRun}
use Rattle.job_batch.proofs.alone.run_alone.Given as goal

abbrev pub invariant-loop-at : goal.invariant-loop-at
invariant-loop-at l = record {
  most : l.at ≤ l.count;
  run : HasRun (problem_view (problem_of l.sum)) l.at l.residues;
  seat : IsSeatOf l.part.seat (table_of l.sum);
}

abbrev pub decreases-loop-at : goal.decreases-loop-at
decreases-loop-at l = l.count - l.at
