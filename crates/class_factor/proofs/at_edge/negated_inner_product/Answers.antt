use Rattle.arithmetic.proofs.Modular.{Leaves-mul, Leaves-sub}
use Rattle.class_factor.proofs.SectionTerms.{negated_inner_product-progression}
use Rattle.class_factor.proofs.at_edge.negated_inner_product.Goals as goal

pub returns : goal.returns
returns c =
    let step = Leaves-sub c.weight_modulo-at_j.ensures c.weight_modulo.ensures c.sub-step.ensures.value in
    rw (negated_inner_product-progression c.args.setup.now c.args.i c.args.j c.args.n)
    (c.progression_product.ensures _ _
    (Leaves-sub step (Leaves-mul c.of_u64.ensures c.weight_modulo-at_j.ensures c.mul.ensures.value) c.sub-first.ensures.value) step)
