-- The first block that has a bad number ends the loop, and that number is the least of the round. Nothing was seen before,
-- so each bad number is answered.
use Rattle.std.proofs.Common.{◌≡◌, ◌≢◌, ℕ, ◌+◌, ◌<◌, ◌++◌, Option, Some, None, sym, ap, ◌∙◌, subst, arith, ⊎_elim}
use Rattle.std.proofs.lemmas.Bool.{cases_eq}
use Rattle.lists.specs.Ranges.{below}
use Rattle.claim_table.specs.Counts.{nothing_bad}
use Rattle.worker_pool.specs.Rounds.{at_most, all_clean}
use Rattle.problem.specs.Sums.{count_of}
use Rattle.problem.specs.Problems.{view as problem_view}
use Rattle.table_sum.specs.Sums.{problem_of}
use Rattle.sum_job.specs.declared.job.LocusJob.{LocusJob}
use Rattle.sum_job.specs.Jobs.{view}
use Rattle.sum_job.specs.Parts.{StandsFor, least_bad_of, block_count}
use Rattle.sum_job.specs.JobFields.{least_below}
use Rattle.job_batch.proofs.LoneRuns.{first_bad_block, clean_more, unseen}
use Rattle.job_batch.proofs.alone.work_blocks.Goals as goal

fits : (job : LocusJob) (block bad : ℕ) → least_bad_of (view job) block ≡ Some bad → bad < nothing_bad
fits job block bad is = least_below (view job) block bad job.within (problem_of job.sum.now).rules.few_trees is

-- what a block answered is its least bad number
answered : (job : LocusJob) (block : ℕ) (answer : Option ℕ) → answer ≡ at_most nothing_bad (least_bad_of (view job) block)
    → least_bad_of (view job) block ≡ answer
answered job block answer e = sym (e ∙ unseen (least_bad_of (view job) block) (λ n is. fits job block n is))

pub returns-in-Some-clause-least : goal.returns-in-Some-clause-least
returns-in-Some-clause-least c =
    let here = answered c.args.job.now c.loop-number.number (Some c.in-Some.bad) c.in-Some.ensures.answer in
    let blocks = c.blocks-number-end.ensures.blocks in
    let inside = c.loop-number-test.true in
    first_bad_block (view c.args.job.now) (block_count c.args.job.now.first c.args.job.now.end) c.loop-number.number c.in-Some.bad
    (omega arith) c.loop-number.invariant.clean here
    (fits c.args.job.now c.loop-number.number c.in-Some.bad here)

pub returns-in-Some-clause-some : goal.returns-in-Some-clause-some
returns-in-Some-clause-some c =
    fits c.args.job.now c.loop-number.number c.in-Some.bad
    (answered c.args.job.now c.loop-number.number (Some c.in-Some.bad) c.in-Some.ensures.answer)

pub loop-number-preserved : goal.loop-number-preserved
loop-number-preserved c =
    let n = c.loop-number.number in
    let here = answered c.args.job.now n c.work.result c.work.ensures.answer ∙ c.in_default.is in
    record {
      ready = c.work.ensures.ready;
      clean = λ block lt. ⊎_elim (λ (same : n ≡ block). ap (λ b. least_bad_of (view c.args.job.now) b) (sym same) ∙ here)
          (λ (other : n ≢ block). c.loop-number.invariant.clean block (less block n lt other)) (cases_eq n block);
      stands = λ pairs empty.
          clean_more (view c.args.job.now) c.work.new.part pairs n
          (c.work.ensures.stands _ (c.loop-number.invariant.stands pairs empty));
    }
  where
    less : (block n : ℕ) → block < n + 1 → n ≢ block → block < n
    less block n lt apart = grind arith

pub returns-clause-clean : goal.returns-clause-clean
returns-clause-clean c = λ pairs empty.
    let past = c.loop-number-test.false in
    let blocks = c.blocks-number-end.ensures.blocks in
    let all : c.loop-number.number ≡ block_count c.args.job.now.first c.args.job.now.end = omega arith in
    subst (λ n. StandsFor (view c.args.job.now) c.loop-number.part (pairs ++ all_clean (below n))) all
    (c.loop-number.invariant.stands pairs empty)
