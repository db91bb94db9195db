-- The loop keeps the residue of the product of the powers so far; the class of each power is in the table, at the index
-- that is counted along.
use Rattle.std.proofs.Common.{get_or, pos, ap, ◌∙◌, subst, arith}
use Rattle.std.proofs.lemmas.List.{take_all}
use Rattle.arithmetic.specs.Fractions.{IsResidue}
use Rattle.arithmetic.proofs.Residues.{IsResidue-whole}
use Rattle.classes.specs.declared.class.Class.TheVariants.{Mark, Contact}
use Rattle.classes.specs.declared.class.Power.{Power}
use Rattle.class_factor.specs.Powers.{power_value, value_of_powers}
use Rattle.class_factor.proofs.Values.{product-more}
use Rattle.factor_table.specs.Factors.{class_at}
use Rattle.factor_table.specs.Seats.{parameters_of}
use Rattle.table_sum.proofs.Later.{later_same, later_after}
use Rattle.table_sum.proofs.Powers.{residue_times, residue_power}
use Rattle.table_sum.proofs.ClassLaws.{class_of_power, power_within}
use Rattle.table_sum.proofs.class_values.powers_value.Goals as goal

pub loop-power-init : goal.loop-power-init
loop-power-init c = record {
  seat = later_same _ _ c.requires.seat;
  index = omega arith;
  value = IsResidue-whole (pos 1) c.of_u64-product.ensures;
}

pub class_value-requires-clause-seat : goal.class_value-requires-clause-seat
class_value-requires-clause-seat c = c.loop-power.invariant.seat.seat

pub class_value-requires-clause-index_within : goal.class_value-requires-clause-index_within
class_value-requires-clause-index_within c =
    let within =
    power_within
    (parameters_of c.args.column.now.table.now).classes c.args.first c.loop-power.power-index c.args.powers.now c.requires.indices c.loop-power-test.true in
    let index = c.loop-power.invariant.index in
    omega (arith, within, index)

pub class_value-requires-clause-index : goal.class_value-requires-clause-index
class_value-requires-clause-index c =
    let p = parameters_of c.args.column.now.table.now in
    let none : Power = record { class = Mark 0; power = 0 } in
    ap (class_at p) c.loop-power.invariant.index
    ∙ class_of_power p.classes c.args.first c.loop-power.power-index c.args.powers.now Contact none c.requires.indices c.loop-power-test.true

pub loop-power-preserved : goal.loop-power-preserved
loop-power-preserved c =
    let column = c.args.column.now in
    let ws = (parameters_of column.table.now).setup in
    let none : Power = record { class = Mark 0; power = 0 } in
    let ps = c.args.powers.now in
    let i = c.loop-power.power-index in
    let index = c.loop-power.invariant.index in
    record {
      seat = later_after _ _ _ _ c.loop-power.invariant.seat c.class_value.ensures.seat;
      index = omega (arith, index);
      value = rw (product-more (power_value ws c.args.parts.now.tree) ps i none c.loop-power-test.true)
          (residue_times column.above c.loop-power.invariant.value
          (residue_power (get_or ps i none).power column.above c.in_ok-value.ensures.value c.power-at_power.ensures.value) c.times-product.ensures.value);
    }

pub returns-clause-value : goal.returns-clause-value
returns-clause-value c =
    let column = c.args.column.now in
    let past = c.loop-power-test.false in
    subst
    (λ ps. IsResidue column.modulus.now (value_of_powers (parameters_of column.table.now).setup c.args.parts.now.tree ps) c.loop-power.product)
    (take_all c.loop-power.power-index c.args.powers.now (omega (arith, past))) c.loop-power.invariant.value
