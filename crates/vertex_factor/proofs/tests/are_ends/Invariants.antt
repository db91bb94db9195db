use Rattle.std.proofs.Common.{take, All}
use Rattle.vertex_factor.specs.Ends.{IsEndAt}
use Rattle.vertex_factor.proofs.tests.are_ends.Given as goal

abbrev pub invariant-loop-colour : goal.invariant-loop-colour
invariant-loop-colour l = All (IsEndAt l.setup l.c) (take l.colour-index l.ends)
