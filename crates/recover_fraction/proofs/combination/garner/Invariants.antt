use Rattle.recover_fraction.proofs.Garner.{IsSoFar}
use Rattle.recover_fraction.proofs.combination.garner.Given as goal

abbrev pub invariant-loop-place : goal.invariant-loop-place
invariant-loop-place l = IsSoFar l.moduli l.residues l.place l.number l.product
