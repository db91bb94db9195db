use Rattle.std.proofs.Common.{map}
use Rattle.arithmetic.specs.Fractions.{product_of_fractions}
use Rattle.lists.specs.Ranges.{below}
use Rattle.residue.specs.Ratios.{IsRatioOf}
use Rattle.contribution.specs.Terms.{vertex_at}
use Rattle.contribution.proofs.sum.vertices_ratio.Given as goal

abbrev pub invariant-loop-vertex : goal.invariant-loop-vertex
invariant-loop-vertex l =
    IsRatioOf l.modulus (product_of_fractions (map (vertex_at l.setup l.term l.parts.tree) (below l.vertex))) l.product
