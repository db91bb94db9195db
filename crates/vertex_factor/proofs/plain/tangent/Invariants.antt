use Rattle.arithmetic.specs.Numbers.{Leaves, product_below}
use Rattle.localisation.specs.Weights.{tangent_term}
use Rattle.vertex_factor.proofs.plain.tangent.Given as goal

abbrev pub invariant-loop-j : goal.invariant-loop-j
invariant-loop-j l = Leaves l.modulus (product_below l.j (tangent_term l.setup l.c)) l.product
