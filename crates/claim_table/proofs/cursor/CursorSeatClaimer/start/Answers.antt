-- The first seat has the records of all workers. The loop splits off one seat after the other, each with the record of
-- its worker and nothing taken, and keeps what is left to deal.
use Rattle.std.proofs.Common.{◌≡◌, ℕ, ◌+◌, ◌<◌, List, [], ◌∷◌, length, get_or, length-append, subst, arith, ap, sym, ◌∙◌}
use Rattle.atomic_table.specs.Table.{Me}
use Rattle.claim_table.specs.declared.claimer.Record.{Record}
use Rattle.claim_table.specs.declared.cursor.CursorSeat.{CursorSeat}
use Rattle.claim_table.specs.declared.view.View.{View}
use Rattle.claim_table.specs.Counts.{occurrences}
use Rattle.claim_table.specs.Claims.{fresh}
use Rattle.claim_table.specs.Views.{view}
use Rattle.claim_table.specs.Cursor.{only}
use Rattle.claim_table.proofs.Moves.{deals}
use Rattle.claim_table.proofs.Lists.{each_push}
use Rattle.claim_table.proofs.Dealing.{dealt_me, rest_me}
use Rattle.claim_table.proofs.cursor.CursorSeatClaimer.start.Goals as goal

pub split_seat-seat-requires : goal.split_seat-seat-requires
split_seat-seat-requires c = (
  c.loop-number.invariant.dealer.0,
  omega (arith, c.in_ok-table.ensures.table.1),
  deals (Unit {0}) _ _ _,
)

pub invariant_of-push_reserved : goal.invariant_of-push_reserved
invariant_of-push_reserved c =
    let loop = c.loop-number in
    let is = dealt_me fresh c.args.blocks loop.number c.args.workers loop.dealer.me c.loop-number-test.true
    loop.invariant.dealer.1 c.split_seat-seat.result.me c.split_seat-seat.ensures.4 in
    let blocks = ap (λ (m : Me (Unit {0}) (View Record)). m.0.blocks) is in
    let empty = c.in_ok-taken.ensures.items in
    record {
      one_record = ap (λ (m : Me (Unit {0}) (View Record)). length m.0.records) is;
      no_slot = ap (λ (m : Me (Unit {0}) (View Record)). length m.1) is;
      numbered = ap (λ (m : Me (Unit {0}) (View Record)). (only m.0).worker) is;
      dries = ap (λ (m : Me (Unit {0}) (View Record)). (only m.0).dry) is;
      takes = ap (λ (m : Me (Unit {0}) (View Record)). (only m.0).taken) is ∙ sym empty;
      few = omega (arith, ap length empty);
      below = λ b some_there. absurd (omega (arith, ap (occurrences b) empty));
      room = omega (arith, c.in_ok-taken.ensures.capacity);
    }

pub loop-number-preserved : goal.loop-number-preserved
loop-number-preserved c =
    let loop = c.loop-number in
    let inv = loop.invariant in
    let seat = c.split_seat-seat in
    let lt = c.loop-number-test.true in
    let is = dealt_me fresh c.args.blocks loop.number c.args.workers loop.dealer.me lt inv.dealer.1 seat.result.me
    seat.ensures.4 in
    let At : ℕ → Type 0 = λ k. seat.result.me ≡ (view c.args.blocks (fresh k ∷ []), []) in
    let P : ℕ → CursorSeat → Type 0 = λ k s. (s.seat.table_id ≡ c.in_ok-table.table.shared.table_id)
    × (s.seat.me ≡ (view c.args.blocks (fresh k ∷ []), [])) in
    let Q : List CursorSeat → Type 0 = λ xs. (k : ℕ) (d : CursorSeat) → k < length xs → P k (get_or xs k d) in
    record {
      dealer = (
        seat.ensures.0 ∙ inv.dealer.0,
        rest_me fresh c.args.blocks loop.number c.args.workers loop.dealer.me lt inv.dealer.1 _ seat.ensures.2,
      );
      count = ap length c.push_reserved.ensures.items ∙ length-append loop.seats.items _ ∙ ap (λ n. n + 1) inv.count;
      room = omega (arith, c.push_reserved.ensures.capacity);
      each = subst Q (sym c.push_reserved.ensures.items) (each_push P loop.seats.items _ inv.each (
        seat.ensures.3
            ∙ inv.dealer.0,
        subst At (sym inv.count) is,
      ));
    }

pub push_reserved-requires : goal.push_reserved-requires
push_reserved-requires c = omega (arith, c.loop-number.seats.ok)
