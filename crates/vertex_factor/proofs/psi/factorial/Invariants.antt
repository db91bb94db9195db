use Rattle.std.proofs.Common.{◌≡◌}
use Rattle.arithmetic.specs.Numbers.{factorial}
use Rattle.vertex_factor.proofs.psi.factorial.Given as goal

abbrev pub invariant-loop-k : goal.invariant-loop-k
invariant-loop-k l = l.product ≡ factorial l.k
