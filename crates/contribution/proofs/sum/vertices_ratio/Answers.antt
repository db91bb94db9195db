use Rattle.class_factor.proofs.Values.{product-vertex}
use Rattle.contribution.specs.Terms.{vertex_at}
use Rattle.contribution.proofs.sum.vertices_ratio.Goals as goal

pub loop-vertex-preserved : goal.loop-vertex-preserved
loop-vertex-preserved c =
    rw (product-vertex (vertex_at c.args.setup.now c.args.term.now c.args.parts.now.tree) c.loop-vertex.vertex)
    (c.times-product.ensures _ _ c.loop-vertex.invariant c.vertex_ratio-factor.ensures)
