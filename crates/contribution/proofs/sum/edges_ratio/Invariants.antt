use Rattle.std.proofs.Common.{map, take}
use Rattle.arithmetic.specs.Fractions.{product_of_fractions}
use Rattle.localisation.specs.EdgeFraction.{edge_fraction}
use Rattle.residue.specs.Ratios.{IsRatioOf}
use Rattle.class_factor.proofs.Values.{of_edge}
use Rattle.contribution.proofs.sum.edges_ratio.Given as goal

abbrev pub invariant-loop-edge : goal.invariant-loop-edge
invariant-loop-edge l =
    IsRatioOf l.modulus
    (product_of_fractions (map (of_edge (edge_fraction l.setup)) (take l.edge-index l.edges))) l.product
