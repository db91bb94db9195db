use Rattle.arithmetic.specs.Numbers.{Leaves, product_below}
use Rattle.localisation.specs.EdgeFraction.{colour_factor}
use Rattle.edge_factor.proofs.other_colours.Given as goal

abbrev pub invariant-loop-k : goal.invariant-loop-k
invariant-loop-k l = Leaves l.modulus (product_below l.k (colour_factor l.setup l.i l.j l.a)) l.product
