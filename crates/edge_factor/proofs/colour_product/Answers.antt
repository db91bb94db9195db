use Rattle.arithmetic.proofs.Modular.{Leaves-mul, Leaves-sub}
use Rattle.edge_factor.proofs.ColourTerms.{colour_product-progression}
use Rattle.edge_factor.proofs.colour_product.Goals as goal

pub returns : goal.returns
returns c =
    rw (colour_product-progression c.args.setup.now c.args.i c.args.j c.args.a c.args.k)
    (c.progression_product.ensures _ _
    (Leaves-mul c.of_u64.ensures (Leaves-sub c.weight_modulo-at_j.ensures c.weight_modulo.ensures c.sub-above_k.ensures.value) c.mul-first.ensures.value)
    (Leaves-sub c.weight_modulo-2.ensures c.weight_modulo-at_j.ensures c.sub-step.ensures.value))
