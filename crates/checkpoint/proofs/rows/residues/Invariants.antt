use Rattle.std.proofs.Common.{length}
use Rattle.checkpoint.specs.Readers.{starts_with_space, residue_at}
use Rattle.checkpoint.proofs.Loops.{Continues}
use Rattle.checkpoint.proofs.rows.residues.Given as goal

abbrev pub invariant-loop-rest : goal.invariant-loop-rest
invariant-loop-rest l = Continues starts_with_space residue_at l.text l.residues.items l.rest

abbrev pub decreases-loop-rest : goal.decreases-loop-rest
decreases-loop-rest l = length l.rest
