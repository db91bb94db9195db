use Rattle.std.proofs.Common.{map}
use Rattle.arithmetic.specs.Fractions.{product_of_fractions, IsResidue}
use Rattle.lists.specs.Ranges.{below}
use Rattle.contribution.specs.Terms.{vertex_at}
use Rattle.factor_table.specs.Seats.{parameters_of}
use Rattle.table_sum.specs.Words.{IsLater}
use Rattle.table_sum.proofs.vertices.psi_vertices_residue.Given as goal

abbrev pub invariant-loop-vertex : goal.invariant-loop-vertex
invariant-loop-vertex l = record {
  seat : IsLater l.column.table.now l.fn.seat l.seat;
  value : IsResidue l.column.modulus.now (product_of_fractions (map (vertex_at (parameters_of l.column.table.now).setup l.term l.parts.tree) (below l.vertex))) l.product;
}
