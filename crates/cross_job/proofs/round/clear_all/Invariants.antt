use Rattle.std.proofs.Common.{ℕ, ◌<◌, [], slice_index_or, All}
use Rattle.cross_job.specs.declared.part.CrossPart.{CrossPart}
use Rattle.cross_job.specs.Cross.{CrossView, AreReady, StandFor, AreSeatsOf, seats_of}
use Rattle.cross_job.specs.CrossParts.{parts_of}
use Rattle.cross_job.proofs.round.clear_all.Given as goal

abbrev pub invariant-loop-part : goal.invariant-loop-part
invariant-loop-part l = record {
  cleared : (v : CrossView) → All (λ part. AreSeatsOf (seats_of (parts_of part)) v.sums) l.initial.parts
      → (k : ℕ) (d : CrossPart) → k < l.part-index
      → AreReady v (parts_of (slice_index_or l.parts k d)) × StandFor v (parts_of (slice_index_or l.parts k d)) [];
  seats : (v : CrossView) → All (λ part. AreSeatsOf (seats_of (parts_of part)) v.sums) l.initial.parts
      → All (λ part. AreSeatsOf (seats_of (parts_of part)) v.sums) l.parts;
}
