-- The loop keeps the residue of the product of the class's parts at the vertices so far.
use Rattle.std.proofs.Common.{◌≡◌, pos, subst, ap₂, length, map, ◌∙◌, sym, ap, arith}
use Rattle.arithmetic.specs.Fractions.{product_of_fractions, IsResidue}
use Rattle.lists.specs.Ranges.{below}
use Rattle.arithmetic.proofs.Residues.{IsResidue-whole}
use Rattle.localisation.specs.ClassValue.{class_vertex}
use Rattle.tree_parts.proofs.Edgewise.{length-ends_of}
use Rattle.class_factor.specs.Vertices.{class_at_vertex}
use Rattle.class_factor.proofs.Values.{product-vertex}
use Rattle.factor_table.specs.Factors.{class_at}
use Rattle.factor_table.specs.Seats.{parameters_of}
use Rattle.table_sum.proofs.Later.{later_same, later_after}
use Rattle.table_sum.proofs.Powers.{residue_times}
use Rattle.table_sum.proofs.class_values.vertex_parts.Goals as goal

pub vertex_part-requires-clause-seat : goal.vertex_part-requires-clause-seat
vertex_part-requires-clause-seat c = c.loop-vertex.invariant.seat.seat

pub loop-vertex-init : goal.loop-vertex-init
loop-vertex-init c = record {
  seat = later_same _ _ c.requires.seat;
  value = IsResidue-whole (pos 1) c.of_u64-product.ensures;
}

pub loop-vertex-preserved : goal.loop-vertex-preserved
loop-vertex-preserved c =
    let column = c.args.column.now in
    let p = parameters_of column.table.now in
    let class = class_at p c.args.index in
    let valence = sym (length-ends_of c.ends_at.result.now) ∙ ap length c.ends_at.ensures.value in
    let part =
    subst (λ f. IsResidue column.modulus.now f c.in_ok-part.part)
    (ap₂ (class_vertex p.setup class) c.colour.ensures.value valence) c.in_ok-part.ensures.value in
    record {
      seat = later_after _ _ _ _ c.loop-vertex.invariant.seat c.vertex_part.ensures.seat;
      value = rw (product-vertex (class_at_vertex p.setup class c.args.parts.now.tree) c.loop-vertex.vertex)
          (residue_times column.above c.loop-vertex.invariant.value part c.times-product.ensures.value);
    }

pub returns-clause-value : goal.returns-clause-value
returns-clause-value c =
    let column = c.args.column.now in
    let p = parameters_of column.table.now in
    let g = c.args.parts.now.tree in
    let end = c.vertices-vertex-end.ensures.value in
    let past = c.loop-vertex-test.false in
    let all : c.loop-vertex.vertex ≡ g.vertices = omega (arith, end, past) in
    subst
    (λ n. IsResidue column.modulus.now (product_of_fractions (map (class_at_vertex p.setup (class_at p c.args.index) g) (below n))) c.loop-vertex.product)
    all c.loop-vertex.invariant.value
