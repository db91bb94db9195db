use Rattle.std.proofs.Common.{◌≡◌, ◌++◌}
use Rattle.std.specs.Vec.Iter.{into_iter_items}
use Rattle.cross_job.specs.Cross.{AreFresh, seats_of}
use Rattle.cross_job.proofs.part.CrossPart.new.Given as goal

abbrev pub invariant-loop-seat : goal.invariant-loop-seat
invariant-loop-seat l = record {
  seats : l.fn.seats.items ≡ seats_of l.parts.items ++ into_iter_items l.seat-iterator;
  fresh : AreFresh l.parts.items;
}
