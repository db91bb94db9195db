use Rattle.std.proofs.Common.{ℕ, ◌<◌, false, [], ◌∷◌, ◌++◌, length, arith, sym, ap, subst, append_assoc}
use Rattle.std.proofs.lemmas.List.{append-nil, length-append}
use Rattle.claim_table.specs.declared.claimer.Record.{Record}
use Rattle.worker_pool.proofs.Loops.{worked_none, worked_more, fits_more, answer_below}
use Rattle.worker_pool.proofs.pool.work_loop.Goals as goal

pub loop-block-init : goal.loop-block-init
loop-block-init g c = let Stands = g.J.Job.stands_for c.args.job.now c.args.part.now in record {
  seat = c.requires.seat;
  ready = c.requires.part;
  turn = omega arith;
  works = (
    [],
    (g.C.Claimer.record_of c.args.seat.now).dry,
    worked_none (g.J.Job.least_bad c.args.job.now) _,
    λ l s. subst Stands (sym (append-nil l)) s,
    λ n d lt. absurd (omega arith),
  );
}

pub report-requires-clause-bad : goal.report-requires-clause-bad
report-requires-clause-bad g c =
    let job = g.met.J.Job g.world.𝓛 g.world.𝓜 g.world.𝓡 ((λ s x. x), (λ x. x), (λ x. x), λ x. x) in
    let block : ℕ = c.in-Some.block.number in
    let in_job : c.in-Some.block.number < g.J.Job.blocks c.args.job.now =
    omega (arith, c.in-Some.ensures.once.0, c.requires.blocks) in
    λ κs live. answer_below c.least_bad-seen.result (g.J.Job.least_bad c.args.job.now block) c.work-bad.result
    (λ number is. job.bad_below c.args.job.now block number in_job is) c.work-bad.ensures.answer

pub loop-block-preserved : goal.loop-block-preserved
loop-block-preserved g c =
    let inv = c.loop-block.invariant in
    let taken = c.in-Some.ensures.some in
    let seen = c.least_bad-seen.ensures.seen in
    let reported = c.report.ensures.reported in
    let block = c.in-Some.block.number in
    let Stands = g.J.Job.stands_for c.args.job.now c.work-bad.new.part in
    record {
      seat = c.report.ensures.seat;
      ready = c.work-bad.ensures.ready;
      turn = omega (
        arith,
        ap (λ (r : Record). length r.taken) reported,
        ap (λ (r : Record). length r.taken) seen,
        ap (λ (r : Record). length r.taken) taken,
        length-append (g.C.Claimer.record_of c.loop-block.seat).taken (c.in-Some.block.number ∷ []),
        inv.turn,
      );
      works = (
        inv.works.0 ++ (c.in-Some.block.number, c.least_bad-seen.result) ∷ [],
        false,
        worked_more (g.J.Job.least_bad c.args.job.now) (g.C.Claimer.record_of c.args.seat.now) inv.works.0 inv.works.1
            block c.least_bad-seen.result _ _ _ _ _ inv.works.2 taken seen reported c.work-bad.ensures.answer,
        λ l s. subst Stands (append_assoc l inv.works.0 _) (c.work-bad.ensures.stands (l ++ inv.works.0) (inv.works.3 l s)),
        fits_more inv.works.0 block c.least_bad-seen.result inv.works.4 c.least_bad-seen.type_inv,
      );
    }
