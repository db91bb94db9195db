use Rattle.std.proofs.Common.{map}
use Rattle.arithmetic.specs.Fractions.{product_of_fractions, IsResidue}
use Rattle.lists.specs.Ranges.{below}
use Rattle.class_factor.specs.Vertices.{class_at_vertex}
use Rattle.factor_table.specs.Factors.{class_at}
use Rattle.factor_table.specs.Seats.{parameters_of}
use Rattle.table_sum.specs.Words.{IsLater}
use Rattle.table_sum.proofs.class_values.vertex_parts.Given as goal

abbrev pub invariant-loop-vertex : goal.invariant-loop-vertex
invariant-loop-vertex l = record {
  seat : IsLater l.column.table.now l.fn.seat l.seat;
  value : IsResidue l.column.modulus.now (product_of_fractions (map (class_at_vertex (parameters_of l.column.table.now).setup
      (class_at (parameters_of l.column.table.now) l.index) l.parts.tree) (below l.vertex))) l.product;
}
