use Rattle.std.proofs.Common.{sym, subst, arith}
use Rattle.claim_table.proofs.Lists.{none_left}
use Rattle.cross_job.specs.Cross.{AreSeatsOf, seats_of}
use Rattle.cross_job.proofs.PartLists.{empty_parts}
use Rattle.cross_job.proofs.part.CrossPart.new.Goals as goal

pub returns-clause-empty : goal.returns-clause-empty
returns-clause-empty c =
    let is = none_left c.args.seats.items (seats_of c.loop-seat.parts.items) _ c.loop-seat.invariant.seats (omega (
      arith,
      c.loop-seat.seat-iterator.rest.ok,
      c.in-None.ensures.steps.0,
    )) in
    λ v seats. empty_parts v c.loop-seat.parts.items c.loop-seat.invariant.fresh (subst (λ ss. AreSeatsOf ss v.sums) (sym is) seats)
