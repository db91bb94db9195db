use Rattle.std.proofs.Common.{[], ◌∷◌, slice_index_or, subst, arith}
use Rattle.problem.specs.declared.problem.Problem.{Problem}
use Rattle.problem.specs.Problems.{view}
use Rattle.cross_job.specs.Cross.{HasColumn}
use Rattle.cross_job.specs.CrossParts.{parts_of}
use Rattle.cross_job.specs.Totals.{IsRoundOf}
use Rattle.cross_job.proofs.tests.cross_over.Goals as goal

pub total-requires : goal.total-requires
total-requires g c =
    let summed = subst (IsRoundOf (record { sums = c.of.result ∷ c.of-2.result ∷ []; first = 0; end = c.count-end.result }) c.sum_round.new.parts)
    c.in-None.is c.in_ok-bad.ensures.summed in
    λ k d lt. subst (λ (p : Problem). HasColumn (view p) 0 (parts_of (slice_index_or c.sum_round.new.parts k d))) c.of.ensures.problem
    ((summed.1 0 c.of.result (omega arith)).columns k d lt)

pub total-requires-in-None : goal.total-requires-in-None
total-requires-in-None g c =
    let summed = subst (IsRoundOf (record { sums = c.of.result ∷ c.of-2.result ∷ []; first = 0; end = c.count-end.result }) c.sum_round.new.parts)
    c.in-None.is c.in_ok-bad.ensures.summed in
    λ k d lt. subst (λ (p : Problem). HasColumn (view p) 1 (parts_of (slice_index_or c.sum_round.new.parts k d))) c.of-2.ensures.problem
    ((summed.1 1 c.of-2.result (omega arith)).columns k d lt)
