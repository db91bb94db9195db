use Rattle.std.proofs.Common.{◌≡◌, ◌+◌, take}
use Rattle.arithmetic.specs.Fractions.{IsResidue}
use Rattle.class_factor.specs.Powers.{value_of_powers}
use Rattle.factor_table.specs.Seats.{parameters_of}
use Rattle.table_sum.specs.Words.{IsLater}
use Rattle.table_sum.proofs.class_values.powers_value.Given as goal

abbrev pub invariant-loop-power : goal.invariant-loop-power
invariant-loop-power l = record {
  seat : IsLater l.column.table.now l.fn.seat l.seat;
  index : l.index ≡ l.first + l.power-index;
  value : IsResidue l.column.modulus.now (value_of_powers (parameters_of l.column.table.now).setup l.parts.tree (take l.power-index l.powers)) l.product;
}
