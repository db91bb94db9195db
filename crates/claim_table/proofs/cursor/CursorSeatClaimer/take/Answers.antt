use Rattle.std.proofs.Common.{rules, arith, ap, ◌∙◌}
use Rattle.claim_table.specs.Counts.{occurrences}
use Rattle.claim_table.proofs.Moves.{takes}
use Rattle.claim_table.proofs.Lists.{below_one}
use Rattle.claim_table.proofs.cursor.CursorSeatClaimer.take.Goals as goal

pub fetch_add-found-requires : goal.fetch_add-found-requires
fetch_add-found-requires c = (
  search rules,
  omega arith,
  takes (Unit {0}) _ _ _ _ c.args.self.now.one_record (c.args.self.now.dries ∙ c.if-self.false),
)

pub invariant_of-self-2-clause-below : goal.invariant_of-self-2-clause-below
invariant_of-self-2-clause-below c = λ b some_there. let e = ap (occurrences b) c.push_reserved.ensures.items in
    let k = ap (λ m. m.0.blocks) c.fetch_add-found.ensures.2.0 in
    omega (
      arith,
      below_one b c.fetch_add-found.result c.args.self.now.seat.me.0.blocks
          c.args.self.now.taken.items (c.args.self.now.below b) (omega arith) (omega arith),
    )
