use Rattle.std.proofs.Common.{[], ◌∷◌, ◌++◌, sym, subst, arith}
use Rattle.cross_job.specs.Cross.{StandFor}
use Rattle.cross_job.specs.Jobs.{view}
use Rattle.cross_job.proofs.PartLists.{written_back}
use Rattle.cross_job.proofs.job.work.CrossJobJob.work.Goals as goal

pub returns-clause-stands : goal.returns-clause-stands
returns-clause-stands c = λ pairs stand.
    let v = view c.args.self.now in
    let parts = c.work_each.new.parts in
    let same = c.work_each.auto.parts in
    let front = c.as_mut_slice.ensures.len in
    subst (λ xs. StandFor v xs (pairs ++ (c.args.block.number, c.args.seen) ∷ []))
    (sym (written_back parts _ _ (omega (arith, c.args.part.now.parts.ok))))
    (c.work_each.ensures.stand pairs (subst (λ xs. StandFor v xs pairs) (sym c.as_mut_slice.ensures.value) stand))
