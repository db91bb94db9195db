use Rattle.std.proofs.Common.{subst, arith}
use Rattle.arithmetic.specs.Fractions.{product_of_fractions}
use Rattle.residue.specs.Ratios.{IsRatioOf}
use Rattle.localisation.specs.EdgeFraction.{edge_fraction}
use Rattle.tree_parts.specs.Edges.{coloured_edge}
use Rattle.class_factor.proofs.Values.{of_edge, product-more, every_edge}
use Rattle.contribution.proofs.sum.edges_ratio.Goals as goal

pub loop-edge-preserved : goal.loop-edge-preserved
loop-edge-preserved c =
    rw (product-more (of_edge (edge_fraction c.args.setup.now)) c.edges-edges.result.now c.loop-edge.edge-index (coloured_edge 0 0 0) c.loop-edge-test.true)
    (c.times-product.ensures _ _ c.loop-edge.invariant c.edge_ratio-factor.ensures)

pub returns : goal.returns
returns c =
    let past = c.loop-edge-test.false in
    subst (λ fs. IsRatioOf c.args.modulus.now (product_of_fractions fs) c.loop-edge.product)
    (every_edge (edge_fraction c.args.setup.now) c.args.parts.now.tree c.edges-edges.result.now c.loop-edge.edge-index c.edges-edges.ensures.value (omega (arith, past)))
    c.loop-edge.invariant
