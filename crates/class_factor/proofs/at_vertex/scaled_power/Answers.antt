use Rattle.std.proofs.Common.{◌^◌, ◌%◌, ◌-◌, ap, ◌∙◌}
use Rattle.arithmetic.proofs.Modular.{Leaves-mul, Leaves-pow}
use Rattle.class_factor.proofs.at_vertex.scaled_power.Goals as goal

pub returns : goal.returns
returns c = λ z h.
    Leaves-pow (c.args.s - 1) (Leaves-mul h c.weight_modulo.ensures c.mul-scaled.ensures.value)
    (c.pow.ensures.value ∙ ap (λ n. (c.mul-scaled.result ^ n) % c.args.modulus.now) c.saturating_sub.ensures)
