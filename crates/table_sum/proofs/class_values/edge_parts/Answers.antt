-- The loop keeps the residue of the product of the class's parts at the edges so far; the key of each edge is one of
-- the table.
use Rattle.std.proofs.Common.{get_or, pos, subst, arith}
use Rattle.std.proofs.lemmas.List.Elements.{All-get_or}
use Rattle.arithmetic.specs.Fractions.{product_of_fractions, IsResidue}
use Rattle.arithmetic.proofs.Residues.{IsResidue-whole}
use Rattle.localisation.specs.ClassValue.{class_edge}
use Rattle.tree_parts.specs.Edges.{coloured_edge, IsEdgeOf}
use Rattle.class_factor.proofs.Values.{of_edge, product-more, every_edge}
use Rattle.factor_table.specs.Factors.{class_at}
use Rattle.factor_table.specs.Seats.{parameters_of}
use Rattle.table_sum.proofs.Later.{later_same, later_after}
use Rattle.table_sum.proofs.Powers.{residue_times}
use Rattle.table_sum.proofs.TreeKeys.{class_edge_key}
use Rattle.table_sum.proofs.class_values.edge_parts.Goals as goal

pub class_edge-requires-clause-seat : goal.class_edge-requires-clause-seat
class_edge-requires-clause-seat c = c.loop-edge.invariant.seat.seat

pub class_edge-requires-clause-key : goal.class_edge-requires-clause-key
class_edge-requires-clause-key c =
    let s = c.args.parts.now.shape in
    class_edge_key (parameters_of c.args.column.now.table.now) s
    (get_or c.edges-edges.result.now c.loop-edge.edge-index (coloured_edge 0 0 0)) c.args.index c.requires.shape
    (All-get_or (IsEdgeOf s) c.edges-edges.result.now c.loop-edge.edge-index (coloured_edge 0 0 0) c.loop-edge-test.true c.edges-edges.ensures.each)
    c.requires.index_within c.requires.class

pub loop-edge-init : goal.loop-edge-init
loop-edge-init c = record {
  seat = later_same _ _ c.requires.seat;
  value = IsResidue-whole (pos 1) c.of_u64-product.ensures;
}

pub loop-edge-preserved : goal.loop-edge-preserved
loop-edge-preserved c =
    let column = c.args.column.now in
    let p = parameters_of column.table.now in
    record {
      seat = later_after _ _ _ _ c.loop-edge.invariant.seat c.class_edge.ensures.seat;
      value =
          rw (product-more (of_edge (class_edge p.setup (class_at p c.args.index))) c.edges-edges.result.now c.loop-edge.edge-index (coloured_edge 0 0 0) c.loop-edge-test.true)
          (residue_times column.above c.loop-edge.invariant.value c.in_ok-part.ensures.value c.times-product.ensures.value);
    }

pub returns-clause-value : goal.returns-clause-value
returns-clause-value c =
    let column = c.args.column.now in
    let p = parameters_of column.table.now in
    let past = c.loop-edge-test.false in
    subst (λ fs. IsResidue column.modulus.now (product_of_fractions fs) c.loop-edge.product)
    (every_edge (class_edge p.setup (class_at p c.args.index)) c.args.parts.now.tree c.edges-edges.result.now c.loop-edge.edge-index c.edges-edges.ensures.value (omega (arith, past)))
    c.loop-edge.invariant.value
