use Rattle.std.proofs.Common.{take, map}
use Rattle.arithmetic.specs.Fractions.{product_of_fractions, IsResidue}
use Rattle.localisation.specs.ClassValue.{class_edge}
use Rattle.class_factor.proofs.Values.{of_edge}
use Rattle.factor_table.specs.Factors.{class_at}
use Rattle.factor_table.specs.Seats.{parameters_of}
use Rattle.table_sum.specs.Words.{IsLater}
use Rattle.table_sum.proofs.class_values.edge_parts.Given as goal

abbrev pub invariant-loop-edge : goal.invariant-loop-edge
invariant-loop-edge l = record {
  seat : IsLater l.column.table.now l.fn.seat l.seat;
  value : IsResidue l.column.modulus.now (product_of_fractions (map (of_edge (class_edge (parameters_of l.column.table.now).setup
      (class_at (parameters_of l.column.table.now) l.index))) (take l.edge-index l.edges))) l.product;
}
