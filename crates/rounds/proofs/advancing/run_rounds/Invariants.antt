use Rattle.std.proofs.Common.{◌≡◌, ◌≤◌, ◌-◌, length, All}
use Rattle.problem.specs.Problems.{view as problem_view}
use Rattle.locus_io.specs.Causes.{Stayed}
use Rattle.factor_table.specs.Seats.{IsSeatOf}
use Rattle.table_sum.specs.Sums.{problem_of, table_of}
use Rattle.rounds.proofs.Running.{IsRunning}
use Rattle.rounds.proofs.advancing.run_rounds.Given as goal

abbrev pub invariant-loop-at : goal.invariant-loop-at
invariant-loop-at g l = record {
  from : l.next ≤ l.at;
  to : l.at ≤ l.end;
  running : IsRunning (record { problem = problem_view (problem_of l.sum); next = l.next; residues = l.residues }) l.budget l.at l.sums.items l.shares;
  parts : length l.parts ≡ length l.initial.parts;
  shares : length l.shares ≡ length l.initial.parts;
  seats : All (λ part. IsSeatOf part.seat (table_of l.sum)) l.parts;
  stayed : Stayed (g.S.Stopper.stops l.initial.stopper) (g.S.Stopper.stops l.stopper) (g.S.Stopper.last_stop l.initial.stopper)
      (g.S.Stopper.last_stop l.stopper);
}

abbrev pub decreases-loop-at : goal.decreases-loop-at
decreases-loop-at g l = l.end - l.at
