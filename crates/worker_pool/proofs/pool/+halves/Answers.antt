use Rattle.std.proofs.Common.{List, ◌++◌, sym, subst, ◌∙◌}
use Rattle.worker_pool.specs.Rounds.{AreLoops}
use Rattle.worker_pool.proofs.Loops.{loops_of_halves}
use Rattle.worker_pool.proofs.pool.+halves.Goals as goal

pub run_all-returns-clause-loops : goal.run_all-returns-clause-loops
run_all-returns-clause-loops g t c =
    let seats = c.split_at_mut-low_seats.ensures in
    let parts = c.split_at_mut-low_parts.ensures in
    let halves = c.run_both.ensures in
    let bad = g.J.Job.least_bad c.args.job.now in
    let stands = g.J.Job.stands_for c.args.job.now in
    let same = parts.front_len ∙ sym seats.front_len in
    let both = loops_of_halves bad stands g.C.Claimer.record_of _ _ _ _ _ _ _ _
    same c.run_both.auto.low_seats (c.run_both.auto.low_parts ∙ same) halves.low.2 halves.high.2 in
    let Whole : List g.row.C.Denot × List g.row.J-Part.Denot → Type 0 =
    λ x. AreLoops bad stands g.C.Claimer.record_of x.0 x.1
    (c.run_both.new.low_seats ++ c.run_both.new.high_seats) (c.run_both.new.low_parts ++ c.run_both.new.high_parts) in
    subst Whole (λ i. (sym seats.value i, sym parts.value i)) both
