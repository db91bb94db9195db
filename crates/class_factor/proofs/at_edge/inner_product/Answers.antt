use Rattle.arithmetic.proofs.Modular.{Leaves-mul, Leaves-add, Leaves-sub}
use Rattle.class_factor.proofs.SectionTerms.{inner_product-progression}
use Rattle.class_factor.proofs.at_edge.inner_product.Goals as goal

pub returns : goal.returns
returns c =
    let step = Leaves-sub c.weight_modulo.ensures c.weight_modulo-at_j.ensures c.sub-step.ensures.value in
    rw (inner_product-progression c.args.setup.now c.args.i c.args.j c.args.n)
    (c.progression_product.ensures _ _
    (Leaves-add (Leaves-mul c.of_u64.ensures c.weight_modulo-at_j.ensures c.mul.ensures.value) step c.add-first.ensures.value) step)
