use Rattle.std.proofs.Common.{◌≡◌, ◌++◌, drop}
use Rattle.std.specs.List.{concat}
use Rattle.checkpoint.specs.Bodies.{numbers_of}
use Rattle.checkpoint.proofs.residues.joined.Given as goal

abbrev pub invariant-loop-row : goal.invariant-loop-row
invariant-loop-row l = l.residues.items ++ concat (numbers_of (drop l.row-index l.rows)) ≡ concat (numbers_of l.rows)
