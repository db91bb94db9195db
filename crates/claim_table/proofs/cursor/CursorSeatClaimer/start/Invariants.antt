use Rattle.std.proofs.Common.{◌≡◌, ℕ, ◌-◌, ◌<◌, ◌≤◌, [], ◌∷◌, length, get_or, vec_capacity}
use Rattle.claim_table.specs.declared.cursor.CursorSeat.{CursorSeat}
use Rattle.claim_table.specs.Claims.{fresh}
use Rattle.claim_table.specs.Views.{view, made_from}
use Rattle.claim_table.proofs.cursor.CursorSeatClaimer.start.Given as goal

abbrev pub invariant-loop-number : goal.invariant-loop-number
invariant-loop-number l = record {
  dealer : (l.dealer.table_id ≡ l.table.shared.table_id)
      × (l.dealer.me ≡ (view l.blocks (made_from fresh l.number (l.workers - l.number)), []));
  count : length l.seats.items ≡ l.number;
  room : l.workers ≤ vec_capacity l.seats;
  each : (k : ℕ) (d : CursorSeat) → k < length l.seats.items
      → ((get_or l.seats.items k d).seat.table_id ≡ l.table.shared.table_id)
      × ((get_or l.seats.items k d).seat.me ≡ (view l.blocks (fresh k ∷ []), []));
}
