-- The loop joins one seat after another into `all`, and gives each one's blocks to its worker.
-- At the end `all` has the records of all seats, and what the rule says of it is said of them.
use Rattle.std.proofs.Common.{◌≡◌, [], ◌∷◌, ◌++◌, length, map, get_or, arith, sym, ap, ◌∙◌, subst}
use Rattle.std.specs.Vec.Iter.{into_iter_items}
use Rattle.claim_table.specs.declared.claimer.Plan.{Plan}
use Rattle.claim_table.specs.declared.cursor.CursorSeat.{CursorSeat}
use Rattle.claim_table.specs.Counts.{occurrences}
use Rattle.claim_table.specs.Claims.{fresh, given, IsLegal}
use Rattle.claim_table.specs.Views.{IsLeastReported}
use Rattle.claim_table.specs.Seats.{seat_record}
use Rattle.claim_table.specs.Cursor.{bad, itself, opening_view}
use Rattle.claim_table.proofs.Moves.{joins, enters}
use Rattle.claim_table.proofs.Lists.{next_is, next_in, none_left, append_one, nil_is, map-one, word_at}
use Rattle.claim_table.proofs.Views.{only_is}
use Rattle.claim_table.proofs.Legal.{owner_after, owner_after-one, legal}
use Rattle.claim_table.proofs.Counted.{counted}
use Rattle.claim_table.proofs.Gathered.{least_gathered}
use Rattle.claim_table.proofs.Settled.{once_dry}
use Rattle.claim_table.proofs.cursor.CursorSeatClaimer.close.Goals as goal

pub load_new_seat-all-requires : goal.load_new_seat-all-requires
load_new_seat-all-requires c = (omega arith, enters (Unit {0}) _ _ (opening_view c.args.board.table.shared.key, []))

pub join_seat-requires : goal.join_seat-requires
join_seat-requires c =
    let inv = c.loop-seat.invariant in
    let rest = into_iter_items c.next.new.self in
    let e : c.args.seats.items ≡ c.loop-seat.yielded ++ c.in-Some.seat ∷ rest = inv.seats
    ∙ ap (λ l. c.loop-seat.yielded ++ l) c.in-Some.ensures.steps.0 in
    let is = next_is c.args.seats.items c.loop-seat.yielded rest c.in-Some.seat e in
    let seated = c.requires.seated (length c.loop-seat.yielded) c.in-Some.seat
    (next_in c.args.seats.items c.loop-seat.yielded rest c.in-Some.seat e) in
    let Sits : CursorSeat → Type 0 = λ s. s.seat.table_id ≡ c.args.board.table.shared.table_id in (
      inv.table,
      subst Sits is seated.0.0,
      nil_is _ c.in-Some.seat.no_slot,
      omega arith,
      joins (Unit {0}) _ _ _ _ _ c.in-Some.seat.one_record,
    )

pub loop-seat-preserved : goal.loop-seat-preserved
loop-seat-preserved c =
    let inv = c.loop-seat.invariant in
    let rest = into_iter_items c.next.new.self in
    let seat = c.in-Some.seat in
    let done = seat_record seat in
    let e : c.args.seats.items ≡ c.loop-seat.yielded ++ c.in-Some.seat ∷ rest = inv.seats
    ∙ ap (λ l. c.loop-seat.yielded ++ l) c.in-Some.ensures.steps.0 in
    record {
      seats = e ∙ sym (append_one c.loop-seat.yielded rest seat);
      table = c.join_seat.ensures.0 ∙ inv.table;
      records = ap (λ m. m.0.records) c.join_seat.ensures.2 ∙ ap (λ l. l ++ seat.seat.me.0.records) inv.records
          ∙ ap (λ l. map seat_record c.loop-seat.yielded ++ l) (only_is (fresh 0) _ seat.one_record)
          ∙ sym (map-one seat_record c.loop-seat.yielded seat);
      len = c.give.ensures.len ∙ inv.len;
      owners = λ b lt.
          let o = get_or c.args.board.owners b 0 in
          let was = get_or c.loop-seat.owners b 0 in
          c.give.ensures.owners b (omega arith)
          ∙ ap (λ l. given (occurrences b l) seat.number was) (c.deref.ensures.value ∙ sym seat.takes)
          ∙ ap (λ n. given (occurrences b done.taken) n was) (sym seat.numbered)
          ∙ ap (λ n. given (occurrences b done.taken) done.worker n) (inv.owners b lt)
          ∙ sym (owner_after-one b o (map seat_record c.loop-seat.yielded) done)
          ∙ ap (λ l. owner_after b l o) (sym (map-one seat_record c.loop-seat.yielded seat));
    }

pub free-requires : goal.free-requires
free-requires c = λ k lt. absurd (omega arith)

pub returns-clause-legal : goal.returns-clause-legal
returns-clause-legal c =
    let f = c.close_with-closed.ensures.values.2 in
    let inv = c.loop-seat.invariant in
    let p : Plan = c.args.board.table.shared.key in
    let planned : p ≡ c.args.board.plan = c.args.board.planned in
    let is = none_left c.args.seats.items c.loop-seat.yielded _ inv.seats (omega (
      arith,
      c.loop-seat.seat-iterator.rest.ok,
      c.in-None.ensures.steps.0,
    )) in
    let all = c.requires.all ∙ ap (λ (q : Plan). q.workers) (sym planned) in
    let workers = ap (λ (q : Plan). q.workers) planned in
    let blocks = ap (λ (q : Plan). q.blocks) planned in
    let once = once_dry seat_record c.args.seats.items p f.0.words f.0.views c.loop-seat.all.id c.loop-seat.all.me.0
    (counted p f.0.words f.0.views f.1.0) f.1.1
    (inv.records ∙ ap (map seat_record) is) all (omega (arith, c.args.board.limits))
    (λ k d lt. (c.requires.seated k d lt).2) in
    subst (λ (q : Plan). IsLegal q c.loop-seat.owners (map (λ s. (seat_record s).taken) c.args.seats.items)) planned
    (legal seat_record c.args.seats.items p all c.requires.in_order once c.loop-seat.owners
    (λ b. get_or c.args.board.owners b 0) (omega (arith, inv.len))
    (λ b within. inv.owners b (omega (arith, inv.len))
    ∙ ap (λ l. owner_after b (map seat_record l) (get_or c.args.board.owners b 0)) is))

-- the bad word of the closed table is the least number that the seats reported
least_word : (c : goal.After-free) → IsLeastReported seat_record c.word-least_bad.result c.args.seats.items
least_word c =
    let f = c.close_with-closed.ensures.values.2 in
    let inv = c.loop-seat.invariant in
    let p : Plan = c.args.board.table.shared.key in
    let h = counted p f.0.words f.0.views f.1.0 in
    let is = none_left c.args.seats.items c.loop-seat.yielded _ inv.seats (omega (
      arith,
      c.loop-seat.seat-iterator.rest.ok,
      c.in-None.ensures.steps.0,
    )) in
    let all = c.requires.all ∙ ap (λ (q : Plan). q.workers) (sym c.args.board.planned) in
    let word : bad f.0.words ≡ c.word-least_bad.result = ap (λ l. get_or l 1 0) f.2
    ∙ word_at _ 1 _ c.word-least_bad.ensures in
    subst (λ n. IsLeastReported seat_record n c.args.seats.items) word
    (least_gathered itself seat_record c.args.seats.items p f.0.views c.loop-seat.all.id c.loop-seat.all.me.0
    h.records f.1.1
    (inv.records ∙ ap (map seat_record) is) all (bad f.0.words) h.least)

pub returns-clause-least : goal.returns-clause-least
returns-clause-least c = (least_word c).least

pub returns-clause-seen : goal.returns-clause-seen
returns-clause-seen c = (least_word c).seen
