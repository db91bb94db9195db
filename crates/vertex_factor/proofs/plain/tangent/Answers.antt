use Rattle.std.proofs.Common.{arith, ◌≡◌, length}
use Rattle.arithmetic.proofs.Modular.{Leaves-push}
use Rattle.localisation.specs.Weights.{tangent_term, tangent_product}
use Rattle.vertex_factor.proofs.plain.tangent.Goals as goal

pub loop-j-preserved : goal.loop-j-preserved
loop-j-preserved c =
    Leaves-push c.loop-j.j
    (tangent_term c.args.setup.now c.args.c) c.loop-j.invariant c.tangent_term.ensures c.mul-product.ensures.value

pub returns : goal.returns
unfolding tangent_product
returns c = let e : c.loop-j.j ≡ length c.args.setup.now = omega arith in rw e at c.loop-j.invariant
