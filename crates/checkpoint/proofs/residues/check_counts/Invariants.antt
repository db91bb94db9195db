use Rattle.std.proofs.Common.{◌≡◌, drop}
use Rattle.checkpoint.specs.Bodies.{numbers_of}
use Rattle.checkpoint.specs.Readers.{counts_fit}
use Rattle.checkpoint.proofs.residues.check_counts.Given as goal

abbrev pub invariant-loop-row : goal.invariant-loop-row
invariant-loop-row l =
    counts_fit l.wanted (numbers_of (drop l.row-index l.rows)) ≡ counts_fit l.wanted (numbers_of l.rows)
