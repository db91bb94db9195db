use Rattle.std.proofs.Common.{◌+◌, [], length, IfSome, ap, ◌∙◌, subst, arith}
use Rattle.std.specs.Option.{option_to_list}
use Rattle.std.proofs.lemmas.List.{length-append}
use Rattle.std.proofs.lemmas.List.Elements.{All-pop, All-push, All-same}
use Rattle.factor_table.specs.declared.table.FactorSeat.{FactorSeat}
use Rattle.factor_table.specs.Seats.{IsSeatOf}
use Rattle.list_job.specs.declared.part.ListPart.{ListPart}
use Rattle.list_job.specs.Parts.{IsReady, StandsFor}
use Rattle.list_job.proofs.round.empty_parts.Goals as goal

pub loop-seat-preserved : goal.loop-seat-preserved
loop-seat-preserved c =
    let parts = c.loop-seat.parts.items in
    let pushed = ap length c.in_ok-push.ensures.items ∙ length-append parts _ in
    let popped = ap length c.pop.ensures.items ∙ length-append c.pop.new.self.items (option_to_list c.pop.result)
    ∙ ap (λ o. length c.pop.new.self.items + length (option_to_list o)) c.in-Some.is in
    let before = c.loop-seat.invariant.many in
    record {
      many = omega arith;
      empty = λ job fits all.
          let kept = c.loop-seat.invariant.empty job fits all in
          let rest =
          All-pop
          (λ (seat : FactorSeat). IsSeatOf seat job.table) c.loop-seat.seats.items c.pop.new.self.items c.pop.result c.pop.ensures.items kept.1 in
          let here = subst (λ o. IfSome o (λ (seat : FactorSeat). IsSeatOf seat job.table)) c.in-Some.is rest.1 in (
            All-same (λ (part : ListPart). IsReady job part × StandsFor job part []) c.push.new.self.items _ c.in_ok-push.ensures.items
                (All-push (λ (part : ListPart). IsReady job part × StandsFor job part []) parts _ kept.0
                (c.in_ok-new.ensures.empty job fits here)),
            rest.0,
          );
    }
