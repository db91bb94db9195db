use Rattle.std.proofs.Common.{map, take}
use Rattle.arithmetic.specs.Fractions.{product_of_fractions}
use Rattle.localisation.specs.ClassValue.{class_edge}
use Rattle.residue.specs.Ratios.{IsRatioOf}
use Rattle.class_factor.proofs.Values.{of_edge}
use Rattle.class_factor.proofs.whole.edge_parts.Given as goal

abbrev pub invariant-loop-edge : goal.invariant-loop-edge
invariant-loop-edge l =
    IsRatioOf l.modulus
    (product_of_fractions (map (of_edge (class_edge l.setup l.class)) (take l.edge-index l.edges))) l.product
