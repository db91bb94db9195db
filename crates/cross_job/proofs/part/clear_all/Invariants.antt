use Rattle.std.proofs.Common.{◌≡◌, ◌<◌, ℕ, length, replicate, slice_index_or}
use Rattle.claim_table.specs.Counts.{nothing_bad}
use Rattle.sum_job.specs.declared.part.PartSum.{PartSum}
use Rattle.cross_job.specs.Cross.{seats_of}
use Rattle.cross_job.proofs.part.clear_all.Given as goal

abbrev pub invariant-loop-part : goal.invariant-loop-part
invariant-loop-part l = record {
  size : length l.parts ≡ length l.initial.parts;
  seats : seats_of l.parts ≡ seats_of l.initial.parts;
  fresh : (k : ℕ) (d : PartSum) → k < l.part-index
      → ((slice_index_or l.parts k d).sums ≡ replicate 64 0) × ((slice_index_or l.parts k d).least ≡ nothing_bad);
}
