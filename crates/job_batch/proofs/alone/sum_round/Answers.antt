-- The round of a lone worker is a round of the pool with one part.
use Rattle.std.proofs.Common.{◌≡◌, ◌≢◌, ℕ, ◌+◌, ◌%◌, ◌<◌, true, List, slice_index, refl, sym, ap, subst, arith}
use Rattle.localisation.specs.Agreement.{IsLeastBad, IsFirstBad, modulus_at}
use Rattle.problem.specs.declared.problem.Problem.{Problem}
use Rattle.problem.specs.Problems.{view as problem_view}
use Rattle.problem.specs.Sums.{count_of, places_of, is_bad_of, is_bad_modulo}
use Rattle.claim_table.specs.Counts.{nothing_bad}
use Rattle.table_sum.specs.Sums.{problem_of, table_of}
use Rattle.sum_job.specs.Parts.{AreReduced, block_count}
use Rattle.sum_job.specs.Jobs.{view}
use Rattle.rounds.proofs.RoundLaws.{least_of_range}
use Rattle.job_batch.proofs.LoneRuns.{seat_in, seat_out, round_of_one}
use Rattle.job_batch.proofs.alone.sum_round.Goals as goal

apart : (n : ℕ) → n < nothing_bad → n ≢ nothing_bad
apart n less e = omega arith

pub work_blocks-requires : goal.work_blocks-requires
work_blocks-requires c = record {
  ready = (c.clear.ensures.empty (view c.new-job.result) (problem_of c.new-job.result.sum.now).rules
      (seat_in c.args.part.now.seat c.new-job.ensures.value c.requires.seat)).0;
}

pub bad_number-requires-clause-within : goal.bad_number-requires-clause-within
bad_number-requires-clause-within c =
    let some = c.in-Some.ensures.some in
    let least =
    least_of_range (view c.new-job.result) (problem_view (problem_of c.args.sum.now)) (table_of c.args.sum.now)
    c.args.first c.args.end (block_count c.new-job.result.first c.new-job.result.end) c.in-Some.number
    c.new-job.ensures.value refl c.in-Some.ensures.least (apart _ some) (omega arith) in
    let below = least.below in
    let most = c.requires.within in
    let inside : c.in-Some.number < count_of (problem_view (problem_of c.args.sum.now)) = omega arith in
    subst (λ (q : Problem). c.in-Some.number < count_of (problem_view q)) (sym c.problem-problem.ensures) inside

pub bad_number-requires-clause-bad : goal.bad_number-requires-clause-bad
bad_number-requires-clause-bad c =
    let some = c.in-Some.ensures.some in
    subst (λ (q : Problem). is_bad_of (problem_view q) c.in-Some.number ≡ true) (sym c.problem-problem.ensures)
    (least_of_range (view c.new-job.result) (problem_view (problem_of c.args.sum.now)) (table_of c.args.sum.now)
    c.args.first c.args.end (block_count c.new-job.result.first c.new-job.result.end) c.in-Some.number
    c.new-job.ensures.value refl c.in-Some.ensures.least (apart _ some) (omega arith)).is_bad

pub returns-in-Some-clause-summed : goal.returns-in-Some-clause-summed
returns-in-Some-clause-summed c =
    let p = problem_view (problem_of c.args.sum.now) in
    let some = c.in-Some.ensures.some in (
      subst (IsLeastBad (is_bad_of p) c.args.first c.args.end) (sym c.bad_number.ensures.number)
          (least_of_range (view c.new-job.result) p (table_of c.args.sum.now)
          c.args.first c.args.end (block_count c.new-job.result.first c.new-job.result.end) c.in-Some.number
          c.new-job.ensures.value refl c.in-Some.ensures.least (apart _ some) (omega arith)),
      subst (λ n. IsFirstBad (is_bad_modulo p n) (problem_of c.args.sum.now).moduli c.bad_number.result.modulus)
          (sym c.bad_number.ensures.number)
          (subst (λ (q : Problem). IsFirstBad (is_bad_modulo (problem_view q) c.in-Some.number) q.moduli c.bad_number.result.modulus)
          c.problem-problem.ensures c.bad_number.ensures.first),
    )

pub returns-clause-summed : goal.returns-clause-summed
returns-clause-summed c =
    let rules = (problem_of c.new-job.result.sum.now).rules in
    let cleared = c.clear.ensures.empty (view c.new-job.result) rules
    (seat_in c.args.part.now.seat c.new-job.ensures.value c.requires.seat) in
    round_of_one (view c.new-job.result) (problem_view (problem_of c.args.sum.now)) (table_of c.args.sum.now)
    c.args.first c.args.end c.clear.new.self c.work_blocks.new.part c.args.residues.now c.add_residues.new.sums
    c.new-job.ensures.value rules c.requires.some c.in_default.ensures.least cleared.0 cleared.1 c.in_default.ensures.clean
    c.requires.residues c.add_residues.auto.sums
    (subst (λ (q : Problem). AreReduced (problem_view q) c.add_residues.new.sums) c.problem-problem.ensures c.add_residues.ensures.reduced)
    (subst
    (λ (q : Problem). (place : ℕ) → place < places_of (problem_view q) → slice_index c.add_residues.new.sums place
    ≡ (slice_index c.args.residues.now place + slice_index c.work_blocks.new.part.sums place) % modulus_at q.moduli place)
    c.problem-problem.ensures c.add_residues.ensures.added)
