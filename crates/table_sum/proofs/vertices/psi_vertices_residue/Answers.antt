-- The loop keeps the residue of the product over the vertices so far, and that the seat is later than the one handed
-- in.
use Rattle.std.proofs.Common.{◌≡◌, pos, map, subst, arith}
use Rattle.arithmetic.specs.Fractions.{product_of_fractions, IsResidue}
use Rattle.arithmetic.proofs.Residues.{IsResidue-whole}
use Rattle.lists.specs.Ranges.{below}
use Rattle.class_factor.proofs.Values.{product-vertex}
use Rattle.contribution.specs.Terms.{vertex_at}
use Rattle.factor_table.specs.Seats.{parameters_of}
use Rattle.table_sum.proofs.Later.{later_same, later_after}
use Rattle.table_sum.proofs.Powers.{residue_times}
use Rattle.table_sum.proofs.vertices.psi_vertices_residue.Goals as goal

pub at_vertex-requires-clause-seat : goal.at_vertex-requires-clause-seat
at_vertex-requires-clause-seat c = c.loop-vertex.invariant.seat.seat

pub loop-vertex-init : goal.loop-vertex-init
loop-vertex-init c = record {
  seat = later_same _ _ c.requires.seat;
  value = IsResidue-whole (pos 1) c.of_u64-product.ensures;
}

pub loop-vertex-preserved : goal.loop-vertex-preserved
loop-vertex-preserved c =
    let column = c.args.column.now in
    let ws = (parameters_of column.table.now).setup in
    record {
      seat = later_after _ _ _ _ c.loop-vertex.invariant.seat c.at_vertex.ensures.seat;
      value = rw (product-vertex (vertex_at ws c.args.term.now c.args.parts.now.tree) c.loop-vertex.vertex)
          (residue_times column.above c.loop-vertex.invariant.value c.in_ok-factor.ensures.value c.times-product.ensures.value);
    }

pub returns-clause-value : goal.returns-clause-value
returns-clause-value c =
    let column = c.args.column.now in
    let ws = (parameters_of column.table.now).setup in
    let g = c.args.parts.now.tree in
    let end = c.vertices-vertex-end.ensures.value in
    let past = c.loop-vertex-test.false in
    let all : c.loop-vertex.vertex ≡ g.vertices = omega (arith, end, past) in
    subst
    (λ n. IsResidue column.modulus.now (product_of_fractions (map (vertex_at ws c.args.term.now g) (below n))) c.loop-vertex.product)
    all c.loop-vertex.invariant.value
