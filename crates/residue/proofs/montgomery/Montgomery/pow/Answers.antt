-- By squaring: the power so far times the square to the exponent that is left is the whole power modulo the modulus.
use Rattle.std.proofs.Common.{refl, ◌*◌, ◌%◌, ◌^◌, ◌/◌, arith, ap, ◌∙◌}
use Rattle.residue.specs.Montgomery.{over_word}
use Rattle.residue.proofs.Steps.{even_step, odd_step, last_step, last_odd_step, first_step, power_of_one}
use Rattle.residue.proofs.montgomery.Montgomery.pow.Goals as goal
use Rattle.residue.proofs.montgomery.Montgomery.pow.Goals.{then-left-eq1, else-left-eq1}

pub returns-then-x-eq1 : goal.returns-then-x-eq1
returns-then-x-eq1 c = power_of_one _ _ c.args.exponent c.args.self.now.at_least_3 c.if-x-eq1.true

pub loop-left-init : goal.loop-left-init
loop-left-init c =
    let some = c.args.self.now.at_least_3 in
    record {
      power_below = omega arith;
      square_below = c.enter-square.ensures.below;
      whole = first_step _ _ _ _ _ refl c.enter-square.ensures.value;
    }

pub loop-left-preserved : goal.loop-left-preserved
loop-left-preserved c = record {
  power_below = elim c.if-left-eq1.branch [
    | then-left-eq1 w ↦ omega arith
    | else-left-eq1 w ↦ omega arith
  ];
  square_below = c.squared-square.ensures.below;
  whole = elim c.if-left-eq1.branch [
    | then-left-eq1 w ↦
        odd_step _ _ _ c.loop-left.left _ _ w.if-left-eq1.true c.squared-square.ensures.value (w.power-is ∙ w.times-power.ensures.value) ∙ c.loop-left.invariant.whole
    | else-left-eq1 w ↦
        ap (λ r. (r * over_word c.args.self.now.modulus c.args.self.now.negated_inverse c.squared-square.result ^ (c.loop-left.left / 2)) % c.args.self.now.modulus) w.power-is
        ∙ even_step _ _ _ c.loop-left.left _ w.if-left-eq1.false c.squared-square.ensures.value ∙ c.loop-left.invariant.whole
  ];
}

pub returns-then-left-eq1-2 : goal.returns-then-left-eq1-2
returns-then-left-eq1-2 c = c.times.ensures.value ∙ last_odd_step _ _ _ _ _ c.if-left-eq1-2.true c.loop-left.invariant.whole

pub returns-else-left-eq1-2 : goal.returns-else-left-eq1-2
returns-else-left-eq1-2 c = last_step _ _ _ _ _ (omega arith) c.loop-left.invariant.power_below c.loop-left.invariant.whole
