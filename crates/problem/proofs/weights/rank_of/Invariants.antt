use Rattle.std.proofs.Common.{All, take}
use Rattle.residue.specs.Limits.{IsWeight}
use Rattle.problem.proofs.weights.rank_of.Given as goal

abbrev pub invariant-loop-colour : goal.invariant-loop-colour
invariant-loop-colour l = All IsWeight (take l.colour l.setup)
