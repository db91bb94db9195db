-- Each problem's job works the block with its own part, and the least of the answers is that of all.
use Rattle.std.proofs.Common.{◌<◌, [], ◌∷◌, ◌++◌, length, slice_index_or, refl, sym, ap, ◌∙◌, subst, arith}
use Rattle.std.proofs.lemmas.List.{get_or_default}
use Rattle.worker_pool.specs.Rounds.{at_most}
use Rattle.sum_job.specs.Parts.{IsReady, StandsFor}
use Rattle.sum_job.specs.Parts as one
use Rattle.cross_job.specs.Cross.{job_of}
use Rattle.cross_job.specs.Jobs.{view}
use Rattle.cross_job.proofs.Least.{none_of_nothing, least_of_more}
use Rattle.cross_job.proofs.PartLists.{match_set, set_more, set_rest}
use Rattle.cross_job.proofs.job.CrossJob.work_each.Goals as goal

pub loop-index-init : goal.loop-index-init
loop-index-init c = record {
  ready = c.requires.ready;
  stand = λ pairs stand i p s lt. absurd (omega arith);
  rest = λ i p lt. refl;
  least = none_of_nothing (view c.args.self.now) c.args.block.number c.args.seen;
}

pub work-bad-requires-clause-ready : goal.work-bad-requires-clause-ready
work-bad-requires-clause-ready c =
    let v = view c.args.self.now in
    let i = c.loop-index.index in
    let s = c.new-job.result.sum.now in
    let p = c.index-parts-index.result in
    let within : i < length v.sums = (let within = c.loop-index-test.true in let end = c.loop-index.auto.index-end in omega arith) in
    let same = c.new-job.ensures.value ∙ ap (job_of v) (get_or_default v.sums i _ s within) in
    subst (λ j. IsReady j (slice_index_or c.loop-index.parts i p)) (sym same) (c.loop-index.invariant.ready.each i p s within)

pub loop-index-preserved : goal.loop-index-preserved
loop-index-preserved c =
    let v = view c.args.self.now in
    let i = c.loop-index.index in
    let s = c.new-job.result.sum.now in
    let p = c.index-parts-index.result in
    let new = c.work-bad.new.part in
    let inv = c.loop-index.invariant in
    let block = c.args.block.number in
    let seen = c.args.seen in
    let within : i < length v.sums = (let within = c.loop-index-test.true in let end = c.loop-index.auto.index-end in omega arith) in
    let same = c.new-job.ensures.value ∙ ap (job_of v) (get_or_default v.sums i _ s within) in
    let inside : i < length c.loop-index.parts = (let many = inv.ready.as_many in omega arith) in
    record {
      ready = match_set (λ part sum. IsReady (job_of v sum) part) c.loop-index.parts v.sums i new s inside inv.ready
          (subst (λ j. IsReady j new) same c.work-bad.ensures.ready);
      stand = λ pairs stand.
          let before = subst (λ part. StandsFor (job_of v (slice_index_or v.sums i s)) part pairs) (sym (inv.rest i p (omega arith)))
          (stand.each i p s within) in
          set_more (λ part sum. StandsFor (job_of v sum) part (pairs ++ (block, seen) ∷ [])) c.loop-index.parts v.sums i new s inside within
          (inv.stand pairs stand)
          (subst (λ j. StandsFor j new (pairs ++ (block, seen) ∷ [])) same
          (c.work-bad.ensures.stands pairs (subst (λ j. StandsFor j (slice_index_or c.loop-index.parts i p) pairs) (sym same) before)));
      rest = set_rest c.loop-index.parts c.args.parts.now i new inv.rest;
      least = c.lesser-least.ensures
          ∙ least_of_more v i s block seen c.loop-index.least c.work-bad.result within inv.least
          (c.work-bad.ensures.answer ∙ ap (λ j. at_most seen (one.least_bad_of j block)) same);
    }

pub returns-clause-stand : goal.returns-clause-stand
returns-clause-stand c = λ pairs stand. record {
  as_many = c.loop-index.invariant.ready.as_many;
  each = λ i p s lt. c.loop-index.invariant.stand pairs stand i p s
      (let past = c.loop-index-test.false in let end = c.loop-index.auto.index-end in omega arith);
}
