-- The pool gives a round of the job: each block was worked once for each problem, and the least bad number is exact. If it
-- found none, the sums of all parts are those of the range for each problem; otherwise the first problem for which that
-- number is bad is found.
use Rattle.std.proofs.Common.{◌≡◌, List, slice_index_or, All, sym, subst, arith}
use Rattle.localisation.specs.Agreement.{IsLeastBad}
use Rattle.cross_job.specs.declared.part.CrossPart.{CrossPart}
use Rattle.cross_job.specs.Cross.{CrossView, is_bad_for_some, AreSeatsOf, seats_of}
use Rattle.cross_job.specs.CrossParts.{parts_of}
use Rattle.cross_job.specs.Found.{IsFirstBadProblem}
use Rattle.cross_job.specs.Jobs.{view}
use Rattle.cross_job.proofs.RoundLaws.{least_of_range, round_is_clean, all_seated}
use Rattle.cross_job.proofs.round.sum_round.Goals as goal

-- seats of the tables are seats of those of the job
seated : {v w : CrossView} (parts : List CrossPart) → v ≡ w → All (λ part. AreSeatsOf (seats_of (parts_of part)) w.sums) parts
    → All (λ part. AreSeatsOf (seats_of (parts_of part)) v.sums) parts
seated parts e all k d lt =
    subst (λ (u : CrossView). AreSeatsOf (seats_of (parts_of (slice_index_or parts k d))) u.sums) (sym e) (all k d lt)

pub run_round-requires-clause-parts : goal.run_round-requires-clause-parts
run_round-requires-clause-parts g c κs within =
    let same = c.clear_all.auto.parts in
    let limits = c.requires.parts in
    (omega arith, omega arith, λ k d lt. (c.clear_all.ensures (view c.new-job.result) (seated c.args.parts.now c.new-job.ensures.value c.requires.seats) k d lt).0)

pub returns-then-round-clause-summed : goal.returns-then-round-clause-summed
returns-then-round-clause-summed g c =
    let same = c.clear_all.auto.parts in
    let some = c.requires.parts in
    let kept = c.run_round.auto.parts in
    round_is_clean (view c.new-job.result) (record { sums = c.args.sums.now; first = c.args.first; end = c.args.end })
    c.blocks-2.result c.in_ok-round.round.least_bad c.in_ok-round.round.owners c.clear_all.new.parts c.run_round.new.parts
    c.new-job.ensures.value c.blocks-2.ensures.blocks c.new-job.result.some (omega arith) kept
    c.in_ok-round.ensures.least c.if-round.true c.run_round.ensures.ready
    (c.clear_all.ensures (view c.new-job.result) (seated c.args.parts.now c.new-job.ensures.value c.requires.seats))
    (c.in_ok-round.ensures.clean c.if-round.true)

pub returns-then-round-clause-seats : goal.returns-then-round-clause-seats
returns-then-round-clause-seats g c =
    seated c.run_round.new.parts (sym c.new-job.ensures.value)
    (all_seated (view c.new-job.result) c.run_round.new.parts c.run_round.ensures.ready)

pub bad_number-requires-clause-within : goal.bad_number-requires-clause-within
bad_number-requires-clause-within g c = λ k d lt.
    let least =
    least_of_range (view c.new-job.result) (record { sums = c.args.sums.now; first = c.args.first; end = c.args.end })
    c.blocks-2.result c.in_ok-round.round.least_bad c.new-job.ensures.value c.blocks-2.ensures.blocks
    c.in_ok-round.ensures.least c.if-round.false (omega arith) in
    let below = least.below in
    let most = c.requires.within k d lt in
    omega arith

pub bad_number-requires-clause-bad : goal.bad_number-requires-clause-bad
bad_number-requires-clause-bad g c =
    (least_of_range (view c.new-job.result) (record { sums = c.args.sums.now; first = c.args.first; end = c.args.end })
    c.blocks-2.result c.in_ok-round.round.least_bad c.new-job.ensures.value c.blocks-2.ensures.blocks
    c.in_ok-round.ensures.least c.if-round.false (omega arith)).is_bad

pub returns-clause-summed : goal.returns-clause-summed
returns-clause-summed g c = (
  subst (IsLeastBad (is_bad_for_some c.args.sums.now) c.args.first c.args.end) (sym c.bad_number.ensures.number)
      (least_of_range (view c.new-job.result) (record { sums = c.args.sums.now; first = c.args.first; end = c.args.end })
      c.blocks-2.result c.in_ok-round.round.least_bad c.new-job.ensures.value c.blocks-2.ensures.blocks
      c.in_ok-round.ensures.least c.if-round.false (omega arith)),
  subst (λ n. IsFirstBadProblem c.args.sums.now n c.bad_number.result.first) (sym c.bad_number.ensures.number)
      c.bad_number.ensures.first,
)

pub returns-clause-seats : goal.returns-clause-seats
returns-clause-seats g c =
    seated c.run_round.new.parts (sym c.new-job.ensures.value)
    (all_seated (view c.new-job.result) c.run_round.new.parts c.run_round.ensures.ready)

pub returns-in_err-round-clause-seats : goal.returns-in_err-round-clause-seats
returns-in_err-round-clause-seats g c =
    seated c.run_round.new.parts (sym c.new-job.ensures.value)
    (all_seated (view c.new-job.result) c.run_round.new.parts c.run_round.ensures.ready)
