use Rattle.std.proofs.Common.{◌≡◌, ℕ, ◌<◌, get_or, length, All}
use Rattle.claim_table.specs.declared.cursor.CursorSeat.{CursorSeat}
use Rattle.claim_table.specs.Seats.{seat_record, IsSeatOf}
use Rattle.claim_table.proofs.cursor.tests.report_all.Given as goal

abbrev pub invariant-loop-worker : goal.invariant-loop-worker
invariant-loop-worker l = record {
  count : length l.seats.items ≡ length l.initial.seats.items;
  seated : All (λ s. IsSeatOf s l.board) l.seats.items;
  in_order : (k : ℕ) (d : CursorSeat) → k < length l.seats.items → (seat_record (get_or l.seats.items k d)).worker ≡ k;
}
