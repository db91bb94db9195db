use Rattle.classes.specs.declared.class.Class.TheVariants.{Mark}
use Rattle.classes.specs.declared.class.Power.{Power}
use Rattle.class_factor.specs.Powers.{power_value}
use Rattle.class_factor.proofs.Values.{product-more}
use Rattle.class_factor.proofs.term.powers_ratio.Goals as goal

pub loop-power-preserved : goal.loop-power-preserved
loop-power-preserved c =
    let none : Power = record { class = Mark 0; power = 0 } in
    rw (product-more (power_value c.args.setup.now c.args.parts.now.tree) c.args.powers.now c.loop-power.power-index none c.loop-power-test.true)
    (c.times-product.ensures _ _ c.loop-power.invariant (c.power.ensures _ c.whole_ratio-value.ensures))
