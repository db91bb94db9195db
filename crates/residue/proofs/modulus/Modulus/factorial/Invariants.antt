use Rattle.std.proofs.Common.{pos}
use Rattle.arithmetic.specs.Numbers.{Leaves, factorial}
use Rattle.residue.proofs.modulus.Modulus.factorial.Given as goal

abbrev pub invariant-loop-k : goal.invariant-loop-k
invariant-loop-k l = Leaves l.self (pos (factorial l.k)) l.product
