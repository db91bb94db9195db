use Rattle.std.proofs.Common.{arith}
use Rattle.checkpoint.proofs.Fits.{residues_done}
use Rattle.checkpoint.proofs.residues.check_residues.Goals as goal

pub returns-clause-below : goal.returns-clause-below
returns-clause-below c =
    residues_done c.args.moduli.now c.args.residues.now c.loop-place.place 0 c.loop-place.invariant (omega arith)
