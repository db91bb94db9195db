use Rattle.std.proofs.Common.{length}
use Rattle.checkpoint.specs.Bodies.{numbers_of}
use Rattle.checkpoint.specs.Readers.{goes_on, row_at}
use Rattle.checkpoint.proofs.Loops.{Continues}
use Rattle.checkpoint.proofs.rows.rows.Given as goal

abbrev pub invariant-loop-rest : goal.invariant-loop-rest
invariant-loop-rest l = Continues goes_on row_at l.text (numbers_of l.rows.items) l.rest

abbrev pub decreases-loop-rest : goal.decreases-loop-rest
decreases-loop-rest l = length l.rest
