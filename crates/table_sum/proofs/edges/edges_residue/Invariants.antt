use Rattle.std.proofs.Common.{take, map, All, OnErr}
use Rattle.arithmetic.specs.Fractions.{product_of_fractions}
use Rattle.localisation.specs.EdgeFraction.{edge_fraction}
use Rattle.class_factor.proofs.Values.{of_edge}
use Rattle.factor_table.specs.Seats.{parameters_of, Knows}
use Rattle.table_sum.specs.Words.{MayGive, IsLater, LacksUnit}
use Rattle.table_sum.proofs.EdgeLists.{key_of_edge}
use Rattle.table_sum.proofs.edges.edges_residue.Given as goal

abbrev pub invariant-loop-edge : goal.invariant-loop-edge
invariant-loop-edge l = record {
  seat : IsLater l.column.table.now l.fn.seat l.seat;
  value : MayGive l.column.modulus.now (product_of_fractions (map (of_edge (edge_fraction (parameters_of l.column.table.now).setup)) (take l.edge-index l.edges))) l.product;
  edges : All (λ key. Knows l.seat l.column.table.now key l.column.index) (map key_of_edge (take l.edge-index l.edges));
  refused : OnErr l.product (LacksUnit (parameters_of l.column.table.now) l.column.index);
}
