-- The place that was answered is that of a job, which the worker then notes with its end.
use Rattle.std.proofs.Common.{◌≡◌, ℕ, ◌+◌, ◌<◌, length, slice_index_or, refl, sym, ap, ◌∙◌, subst, arith}
use Rattle.claim_table.proofs.Lists.{get_or_within}
use Rattle.checkpoint.specs.States.{StateView}
use Rattle.factor_table.specs.declared.table.FactorTable.{FactorTable}
use Rattle.factor_table.specs.Seats.{IsSeatOf}
use Rattle.sum_job.specs.declared.part.PartSum.{PartSum}
use Rattle.table_sum.specs.Problems.{IsTableOf}
use Rattle.job_batch.specs.Ends.{IsFresh, IsJobEnd}
use Rattle.job_batch.proofs.Working.{is_place, has_room, noted}
use Rattle.job_batch.proofs.work.run_next.Goals as goal

pub bounds-states-index : goal.bounds-states-index
bounds-states-index c = is_place _ _ _ _ c.requires.answered

pub bounds-tables-index : goal.bounds-tables-index
bounds-tables-index c =
    let inside = is_place _ _ _ _ c.requires.answered in
    let many = c.requires.jobs.one_each in
    omega arith

pub index_mut-requires : goal.index_mut-requires
index_mut-requires c =
    let inside = is_place _ _ _ _ c.requires.answered in
    let many = c.requires.answered.at_work.parts in
    let len = c.args.worker.now.parts.ok in
    omega arith

pub push_reserved-requires : goal.push_reserved-requires
push_reserved-requires c =
    let room = has_room _ _ _ _ c.requires.answered in
    let len = c.args.worker.now.ended.ok in
    omega arith

pub run_job-job-requires-clause-fresh : goal.run_job-job-requires-clause-fresh
run_job-job-requires-clause-fresh c =
    let s = c.index-states-index.result in
    subst IsFresh (sym c.index-states-index.is)
    (c.requires.jobs.fresh c.args.place s (is_place _ _ _ _ c.requires.answered))

pub run_job-job-requires-clause-table : goal.run_job-job-requires-clause-table
run_job-job-requires-clause-table c =
    let s = c.index-states-index.result in
    let t = c.index-tables-index.result in
    subst (λ (x : StateView). IsTableOf x.problem t) (sym c.index-states-index.is)
    (subst (λ u. IsTableOf (slice_index_or c.args.states.now c.args.place s).problem u)
    (sym c.index-tables-index.is)
    (c.requires.jobs.of_problem c.args.place s t (is_place _ _ _ _ c.requires.answered)))

pub run_job-job-requires-clause-seat : goal.run_job-job-requires-clause-seat
run_job-job-requires-clause-seat c =
    let t = c.index-tables-index.result in
    let p = c.index_mut.result.now in
    subst (λ (x : PartSum). IsSeatOf x.seat t) (sym c.index_mut.ensures.value)
    (subst (λ u. IsSeatOf (slice_index_or c.args.worker.now.parts.items c.args.place p).seat u)
    (sym c.index-tables-index.is)
    (c.requires.answered.at_work.seats c.args.place p t (is_place _ _ _ _ c.requires.answered)))

pub returns-clause-at_work : goal.returns-clause-at_work
returns-clause-at_work c =
    let s = c.index-states-index.result in
    let t = c.index-tables-index.result in
    let inside = is_place _ _ _ _ c.requires.answered in
    noted c.args.states.now c.args.tables.now c.args.worker.now _ c.args.place c.run_job-job.result c.run_job-job.new.part c.requires.answered
    (λ d. subst (λ (x : StateView). IsJobEnd x c.run_job-job.result.bad c.run_job-job.result.sums)
    (c.index-states-index.is ∙ get_or_within c.args.states.now c.args.place s d inside) c.run_job-job.ensures.end)
    c.run_job-job.ensures.place
    (λ d. subst (λ u. IsSeatOf c.run_job-job.new.part.seat u) (c.index-tables-index.is ∙ get_or_within c.args.tables.now c.args.place t d (let many = c.requires.jobs.one_each in omega arith)) c.run_job-job.ensures.seat)
    refl c.push_reserved.ensures.items (let cap = c.push_reserved.ensures.capacity in omega arith) refl
