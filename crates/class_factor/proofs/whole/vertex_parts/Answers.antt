use Rattle.std.proofs.Common.{subst, ap₂}
use Rattle.residue.specs.Ratios.{IsRatioOf}
use Rattle.localisation.specs.ClassValue.{class_vertex}
use Rattle.class_factor.specs.Vertices.{class_at_vertex}
use Rattle.class_factor.proofs.Values.{product-vertex}
use Rattle.class_factor.proofs.whole.vertex_parts.Goals as goal

pub loop-vertex-preserved : goal.loop-vertex-preserved
loop-vertex-preserved c =
    let ws = c.args.setup.now in
    let class = c.args.class.now in
    let part = subst (λ f. IsRatioOf c.args.modulus.now f c.vertex_part_ratio-part.result)
    (ap₂ (class_vertex ws class) c.colour-colour.ensures.value c.valence.ensures.value) c.vertex_part_ratio-part.ensures in
    rw (product-vertex (class_at_vertex ws class c.args.parts.now.tree) c.loop-vertex.vertex) (c.times-product.ensures _ _ c.loop-vertex.invariant part)
