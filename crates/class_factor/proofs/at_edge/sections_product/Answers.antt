use Rattle.arithmetic.proofs.Modular.{Leaves-mul, Leaves-sub}
use Rattle.class_factor.proofs.SectionTerms.{sections_product-progression}
use Rattle.class_factor.proofs.at_edge.sections_product.Goals as goal

pub returns : goal.returns
returns c =
    rw (sections_product-progression c.args.setup.now c.args.i c.args.j c.args.n)
    (c.progression_product.ensures _ _
    (Leaves-mul c.of_u64.ensures c.weight_modulo-at_j.ensures c.mul-first.ensures.value)
    (Leaves-sub c.weight_modulo.ensures c.weight_modulo-at_j.ensures c.sub-step.ensures.value))
