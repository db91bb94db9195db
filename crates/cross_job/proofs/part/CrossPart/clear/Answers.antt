use Rattle.std.proofs.Common.{[], sym, ap, ◌∙◌, subst, arith}
use Rattle.cross_job.specs.Cross.{AreReady, StandFor, AreSeatsOf, seats_of}
use Rattle.cross_job.proofs.PartLists.{empty_parts, written_back}
use Rattle.cross_job.proofs.part.CrossPart.clear.Goals as goal

pub returns-clause-empty : goal.returns-clause-empty
returns-clause-empty c = λ v seats.
    let parts = c.clear_all.new.parts in
    let same = c.clear_all.auto.parts in
    let front = c.as_mut_slice.ensures.len in
    subst (λ xs. AreReady v xs × StandFor v xs []) (sym (written_back parts _ _ (omega (arith, c.args.self.now.parts.ok))))
    (empty_parts v parts c.clear_all.ensures.fresh
    (subst (λ ss. AreSeatsOf ss v.sums) (sym (c.clear_all.ensures.seats ∙ ap seats_of c.as_mut_slice.ensures.value)) seats))
