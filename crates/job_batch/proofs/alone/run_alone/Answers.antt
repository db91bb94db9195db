-- The loop keeps that some rounds were run without a bad number.
use Rattle.std.proofs.Common.{◌≡◌, ◌-◌, ◌+◌, ℕ, min, refl, sym, ap, ◌∙◌, subst, arith}
use Rattle.problem.specs.declared.problem.Problem.{Problem}
use Rattle.problem.specs.Problems.{view as problem_view}
use Rattle.problem.specs.Sums.{count_of}
use Rattle.table_sum.specs.Sums.{problem_of}
use Rattle.job_batch.specs.Ends.{start_of, IsEnd, outcome_with, IsRoundEnd}
use Rattle.job_batch.proofs.LoneRuns.{HasRun, begun, runs_on, ends_with, ends_done}
use Rattle.job_batch.proofs.alone.run_alone.Goals as goal

pub loop-at-init : goal.loop-at-init
loop-at-init c = record {
  most = omega arith;
  run = subst (λ xs. HasRun (problem_view (problem_of c.args.sum.now)) 0 xs) (sym c.requires.residues)
      (begun (problem_view (problem_of c.args.sum.now)) (problem_of c.args.sum.now).rules);
  seat = c.requires.seat;
}

pub returns-in-Some-clause-end : goal.returns-in-Some-clause-end
returns-in-Some-clause-end c =
    let p = problem_view (problem_of c.args.sum.now) in
    let few = (problem_of c.args.sum.now).rules.few_trees in
    let is_count : c.count-count.result ≡ count_of p =
    c.count-count.ensures.value ∙ ap (λ (q : Problem). count_of (problem_view q)) c.problem.ensures in
    let inside = c.loop-at-test.true in
    ends_with p c.loop-at.at c.min.result c.loop-at.residues c.sum_round.new.residues c.in-Some.bad few (omega arith)
    (c.min.ensures ∙ ap (λ n. min 65536 (n - c.loop-at.at)) is_count) c.loop-at.invariant.run c.in-Some.ensures.summed

pub loop-at-preserved : goal.loop-at-preserved
loop-at-preserved c =
    let p = problem_view (problem_of c.args.sum.now) in
    let few = (problem_of c.args.sum.now).rules.few_trees in
    let is_count : c.count-count.result ≡ count_of p =
    c.count-count.ensures.value ∙ ap (λ (q : Problem). count_of (problem_view q)) c.problem.ensures in
    let inside = c.loop-at-test.true in
    let step = c.min.ensures in
    record {
      most = omega arith;
      run = runs_on p c.loop-at.at c.min.result c.loop-at.residues c.sum_round.new.residues (problem_of c.args.sum.now).rules few (omega arith)
          (c.min.ensures ∙ ap (λ n. min 65536 (n - c.loop-at.at)) is_count) c.loop-at.invariant.run c.in_default.ensures.summed;
      seat = c.sum_round.ensures.seat;
    }
