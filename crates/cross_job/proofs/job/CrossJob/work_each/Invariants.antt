use Rattle.std.proofs.Common.{◌≡◌, ◌<◌, ◌≤◌, ℕ, List, [], ◌∷◌, ◌++◌, take, slice_index_or}
use Rattle.worker_pool.specs.Rounds.{at_most}
use Rattle.table_sum.specs.declared.sum.TableSum.{TableSum}
use Rattle.sum_job.specs.declared.part.PartSum.{PartSum}
use Rattle.sum_job.specs.Parts.{StandsFor}
use Rattle.cross_job.specs.Cross.{AreReady, StandFor, job_of, least_bad_of}
use Rattle.cross_job.specs.Jobs.{view}
use Rattle.cross_job.proofs.job.CrossJob.work_each.Given as goal

abbrev pub invariant-loop-index : goal.invariant-loop-index
invariant-loop-index l = record {
  ready : AreReady (view l.self) l.parts;
  stand : (pairs : List (ℕ × ℕ)) → StandFor (view l.self) l.initial.parts pairs
      → (i : ℕ) (p : PartSum) (s : TableSum) → i < l.index
      → StandsFor (job_of (view l.self) (slice_index_or l.self.sums.now i s)) (slice_index_or l.parts i p)
      (pairs ++ (l.block.number, l.seen) ∷ []);
  rest : (i : ℕ) (p : PartSum) → l.index ≤ i → slice_index_or l.parts i p ≡ slice_index_or l.initial.parts i p;
  least : l.least ≡ at_most l.seen (least_bad_of (record (view l.self) { sums = take l.index l.self.sums.now }) l.block.number);
}
