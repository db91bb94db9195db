use Rattle.std.proofs.Common.{arith}
use Rattle.checkpoint.proofs.Fits.{counts_done}
use Rattle.checkpoint.proofs.residues.check_counts.Goals as goal

pub returns-clause-joined : goal.returns-clause-joined
returns-clause-joined c =
    counts_done c.args.wanted c.args.rows.now c.loop-row.row-index c.loop-row.invariant (omega arith)
