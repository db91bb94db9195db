use Rattle.std.proofs.Common.{◌≡◌, drop}
use Rattle.checkpoint.specs.Readers.{residues_fit}
use Rattle.checkpoint.proofs.residues.check_residues.Given as goal

abbrev pub invariant-loop-place : goal.invariant-loop-place
invariant-loop-place l = residues_fit l.moduli l.place (drop l.place l.residues) ≡ residues_fit l.moduli 0 l.residues
