use Rattle.std.proofs.Common.{◌≡◌, ◌<◌, ℕ, [], slice_index_or}
use Rattle.cross_job.specs.Differences.{first_of}
use Rattle.cross_job.proofs.difference.first_disagreement.Given as goal

abbrev pub invariant-loop-list : goal.invariant-loop-list
invariant-loop-list l = (i : ℕ) → i < l.list → slice_index_or l.lists i [] ≡ first_of l.lists
