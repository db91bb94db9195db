use Rattle.std.proofs.Common.{◌≡◌, ℕ, ◌<◌, List, ◌++◌, None}
use Rattle.lists.specs.Ranges.{below}
use Rattle.worker_pool.specs.Rounds.{all_clean}
use Rattle.sum_job.specs.Jobs.{view}
use Rattle.sum_job.specs.Parts.{least_bad_of, IsReady, StandsFor}
use Rattle.job_batch.proofs.alone.work_blocks.Given as goal

abbrev pub invariant-loop-number : goal.invariant-loop-number
invariant-loop-number l = record {
  ready : IsReady (view l.job) l.part;
  clean : (block : ℕ) → block < l.number → least_bad_of (view l.job) block ≡ None;
  stands : (pairs : List (ℕ × ℕ)) → StandsFor (view l.job) l.initial.part pairs
      → StandsFor (view l.job) l.part (pairs ++ all_clean (below l.number));
}
