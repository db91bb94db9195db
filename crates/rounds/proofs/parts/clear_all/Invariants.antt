use Rattle.std.proofs.Common.{ℕ, ◌<◌, [], slice_index_or, All}
use Rattle.factor_table.specs.declared.table.FactorTable.{FactorTable}
use Rattle.factor_table.specs.Seats.{IsSeatOf}
use Rattle.sum_job.specs.declared.part.PartSum.{PartSum}
use Rattle.sum_job.specs.Parts.{JobView, KeepsJob, IsReady, StandsFor}
use Rattle.rounds.proofs.parts.clear_all.Given as goal

abbrev pub invariant-loop-part : goal.invariant-loop-part
invariant-loop-part l = record {
  cleared : (job : JobView) → KeepsJob job → All (λ part. IsSeatOf part.seat job.table) l.initial.parts
      → (k : ℕ) (d : PartSum) → k < l.part-index
      → IsReady job (slice_index_or l.parts k d) × StandsFor job (slice_index_or l.parts k d) [];
  seats : (table : FactorTable) → All (λ part. IsSeatOf part.seat table) l.initial.parts
      → All (λ part. IsSeatOf part.seat table) l.parts;
}
