use Rattle.std.proofs.Common.{◌≡◌, subst, arith, w64, to_z, of_z}
use Rattle.std.proofs.lemmas.Int.{ints}
use Rattle.arithmetic.specs.Numbers.{Leaves}
use Rattle.arithmetic.specs.Fractions.{IsResidue}
use Rattle.arithmetic.proofs.Residues.{IsResidue-whole}
use Rattle.class_factor.specs.Powers.{value_of_powers}
use Rattle.factor_table.specs.Seats.{parameters_of}
use Rattle.table_sum.proofs.Powers.{residue_times}
use Rattle.table_sum.proofs.class_values.term_value.Goals as goal

pub returns-clause-value : goal.returns-clause-value
returns-clause-value c =
    let column = c.args.column.now in
    let ws = (parameters_of column.table.now).setup in
    let number = c.args.term.now.coefficient in
    let as_read : to_z w64 (of_z w64 number) ≡ number = omega (arith, ints) in
    let coefficient =
    IsResidue-whole number
    (subst (λ z. Leaves column.modulus.now z c.of_i64-coefficient.result) as_read c.of_i64-coefficient.ensures) in
    residue_times column.above coefficient
    (subst (λ ps. IsResidue column.modulus.now (value_of_powers ws c.args.parts.now.tree ps) c.in_ok-powers.powers) c.as_slice.ensures c.in_ok-powers.ensures.value)
    c.times.ensures.value
