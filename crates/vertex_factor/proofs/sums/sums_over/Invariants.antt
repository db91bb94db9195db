use Rattle.std.proofs.Common.{take}
use Rattle.vertex_factor.specs.Ends.{ends_of}
use Rattle.vertex_factor.specs.EndSums.{AreSums}
use Rattle.vertex_factor.proofs.sums.sums_over.Given as goal

abbrev pub invariant-loop-colour : goal.invariant-loop-colour
invariant-loop-colour l = AreSums l.modulus l.setup l.c (ends_of (take l.colour-index l.ends)) l.sums
