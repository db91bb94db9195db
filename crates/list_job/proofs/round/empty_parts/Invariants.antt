use Rattle.std.proofs.Common.{◌≡◌, ◌+◌, ◌≤◌, [], length, All}
use Rattle.factor_table.specs.Seats.{IsSeatOf}
use Rattle.sum_job.specs.Parts.{JobView}
use Rattle.list_job.specs.Parts.{size_of, IsReady, StandsFor}
use Rattle.list_job.proofs.round.empty_parts.Given as goal

abbrev pub invariant-loop-seat : goal.invariant-loop-seat
invariant-loop-seat l = record {
  many : length l.parts.items + length l.seats.items ≡ length l.initial.seats.items;
  empty : (job : JobView) → size_of job ≤ l.room → All (λ seat. IsSeatOf seat job.table) l.initial.seats.items
      → All (λ part. IsReady job part × StandsFor job part []) l.parts.items
      × All (λ seat. IsSeatOf seat job.table) l.seats.items;
}

abbrev pub decreases-loop-seat : goal.decreases-loop-seat
decreases-loop-seat l = length l.seats.items
