use Rattle.std.proofs.Common.{◌≢◌, ◌<◌, ℕ, true, slice_index_or}
use Rattle.problem.specs.Sums.{is_bad_of}
use Rattle.table_sum.specs.declared.sum.TableSum.{TableSum}
use Rattle.cross_job.specs.Cross.{view_of}
use Rattle.cross_job.proofs.found.first_bad_problem.Given as goal

abbrev pub invariant-loop-problem : goal.invariant-loop-problem
invariant-loop-problem l = (i : ℕ) (sum : TableSum) → i < l.problem
    → is_bad_of (view_of (slice_index_or l.sums i sum)) l.number ≢ true
