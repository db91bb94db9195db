use Rattle.std.proofs.Common.{◌≡◌, ℕ, ◌<◌, true, get_or, List, length, arith, subst, ap, ◌∙◌}
use Rattle.claim_table.specs.declared.cursor.CursorSeat.{CursorSeat}
use Rattle.claim_table.proofs.cursor.tests.finish.Goals as goal

pub close-requires-clause-seated : goal.close-requires-clause-seated
close-requires-clause-seated c = λ k d lt. let Dry : List CursorSeat → Type 0 = λ xs. (j : ℕ) (e : CursorSeat)
    → j < length xs → (get_or xs j e).dry ≡ true in
    let len = ap length c.deref-seat-items.ensures.value in
    let dry : Dry c.deref-seat-items.result.now = λ j e less. c.loop-seat.invariant j e (omega arith) in (
      c.requires.seated k d lt,
      tt,
      (get_or c.args.seats.items k d).dries
          ∙ subst Dry c.deref-seat-items.ensures.value dry k d lt,
    )
