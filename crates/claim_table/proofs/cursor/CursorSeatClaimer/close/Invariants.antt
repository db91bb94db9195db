use Rattle.std.proofs.Common.{◌≡◌, ℕ, ◌<◌, ◌++◌, length, map, get_or}
use Rattle.std.specs.Vec.Iter.{into_iter_items}
use Rattle.claim_table.specs.Seats.{seat_record}
use Rattle.claim_table.proofs.Legal.{owner_after}
use Rattle.claim_table.proofs.cursor.CursorSeatClaimer.close.Given as goal

abbrev pub invariant-loop-seat : goal.invariant-loop-seat
invariant-loop-seat l = record {
  seats : l.fn.seats.items ≡ l.yielded ++ into_iter_items l.seat-iterator;
  table : l.all.table_id ≡ l.table.shared.table_id;
  records : l.all.me.0.records ≡ map seat_record l.yielded;
  len : length l.owners ≡ length l.initial.owners;
  owners : (b : ℕ) → b < length l.initial.owners
      → get_or l.owners b 0 ≡ owner_after b (map seat_record l.yielded) (get_or l.initial.owners b 0);
}
