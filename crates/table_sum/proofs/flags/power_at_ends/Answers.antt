use Rattle.std.proofs.Common.{length, ◌-◌, sym, subst}
use Rattle.arithmetic.specs.Fractions.{IsResidue}
use Rattle.vertex_factor.proofs.PlainLaws.{length-ends_of}
use Rattle.factor_table.specs.Seats.{parameters_of}
use Rattle.table_sum.specs.Ends.{tangent_power}
use Rattle.table_sum.proofs.Powers.{residue_times, residue_power}
use Rattle.table_sum.proofs.flags.power_at_ends.Goals as goal

pub returns-clause-value : goal.returns-clause-value
returns-clause-value c =
    let column = c.args.column.now in
    let ws = (parameters_of column.table.now).setup in
    let tangents =
    residue_power
    (length c.args.ends.now - 1) column.above c.tangent-tangent.ensures.value c.power-tangents.ensures.value in
    let at_ends =
    subst (λ s. IsResidue column.modulus.now (tangent_power ws c.args.c s) c.power-tangents.result)
    (sym (length-ends_of c.args.ends.now)) tangents in
    residue_times column.above
    (residue_times column.above at_ends c.in_ok-flags.ensures.product c.times-at_ends.ensures.value)
    (residue_power c.args.exponent column.above c.in_ok-flags.ensures.sum c.power-sums.ensures.value) c.times.ensures.value
