use Rattle.std.proofs.Common.{◌≡◌, ◌<◌, ℕ, None, slice_index_or}
use Rattle.list_job.specs.declared.part.ListPart.{ListPart}
use Rattle.list_job.specs.Parts.{entry_at}
use Rattle.list_job.proofs.finding.entry_of.Given as goal

abbrev pub invariant-loop-part : goal.invariant-loop-part
invariant-loop-part l =
    (other : ℕ) (d : ListPart) → other < l.part-index → entry_at (slice_index_or l.parts other d) l.place ≡ None
