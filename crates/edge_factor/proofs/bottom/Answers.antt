use Rattle.arithmetic.proofs.Modular.{Leaves-mul, Leaves-sub, Leaves-pow}
use Rattle.localisation.specs.EdgeFraction.{edge_bottom}
use Rattle.edge_factor.proofs.bottom.Goals as goal

pub returns : goal.returns
unfolding edge_bottom
returns c =
    Leaves-mul
    (Leaves-mul
    (Leaves-mul c.of_u64.ensures (Leaves-pow 2 c.factorial.ensures c.pow-squared.ensures.value) c.mul-own.ensures.value)
    (Leaves-pow _ (Leaves-sub c.weight_modulo.ensures c.weight_modulo-2.ensures c.sub-difference.ensures.value) c.pow.ensures.value)
    c.mul-differences.ensures.value)
    c.other_colours.ensures c.mul.ensures.value
