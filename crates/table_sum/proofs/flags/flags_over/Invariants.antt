use Rattle.std.proofs.Common.{take}
use Rattle.arithmetic.specs.Fractions.{IsResidue}
use Rattle.vertex_factor.specs.Ends.{ends_of}
use Rattle.factor_table.specs.Seats.{parameters_of}
use Rattle.table_sum.specs.Words.{IsLater}
use Rattle.table_sum.specs.Ends.{product_of_flags, sum_of_flags}
use Rattle.table_sum.proofs.flags.flags_over.Given as goal

abbrev pub invariant-loop-colour : goal.invariant-loop-colour
invariant-loop-colour l = record {
  seat : IsLater l.column.table.now l.fn.seat l.seat;
  product : IsResidue l.column.modulus.now
      (product_of_flags (parameters_of l.column.table.now).setup l.c (ends_of (take l.colour-index l.ends))) l.flags.product;
  sum : IsResidue l.column.modulus.now
      (sum_of_flags (parameters_of l.column.table.now).setup l.c (ends_of (take l.colour-index l.ends))) l.flags.sum;
}
