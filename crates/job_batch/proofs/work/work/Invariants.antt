use Rattle.std.proofs.Common.{◌≡◌, ◌-◌, ◌≤◌, length}
use Rattle.job_batch.specs.Workers.{seat_hand, SameSeat, IsAtWork}
use Rattle.job_batch.proofs.work.work.Given as goal

abbrev pub invariant-loop-place : goal.invariant-loop-place
invariant-loop-place g l = record {
  at_work : IsAtWork l.states l.tables l.worker;
  number : l.worker.number ≡ l.initial.worker.number;
  same : SameSeat l.initial.worker.seat l.worker.seat;
  turns : l.turn ≡ length l.worker.ended.items - length l.initial.worker.ended.items;
  longer : length l.initial.worker.ended.items ≤ length l.worker.ended.items;
}

abbrev pub decreases-loop-place : goal.decreases-loop-place
decreases-loop-place g l = length (seat_hand l.worker.seat).pushed - length (seat_hand l.worker.seat).answers
