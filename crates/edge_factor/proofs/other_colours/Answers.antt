use Rattle.std.proofs.Common.{arith, ◌≡◌, length}
use Rattle.arithmetic.proofs.Modular.{Leaves-push}
use Rattle.localisation.specs.EdgeFraction.{colour_factor, other_colours_product}
use Rattle.edge_factor.proofs.other_colours.Goals as goal

pub loop-k-preserved : goal.loop-k-preserved
loop-k-preserved c =
    Leaves-push c.loop-k.k (colour_factor c.args.setup.now c.args.i c.args.j c.args.a) c.loop-k.invariant
    c.colour_factor.ensures c.mul-product.ensures.value

pub returns : goal.returns
unfolding other_colours_product
returns c = let e : c.loop-k.k ≡ length c.args.setup.now = omega arith in rw e at c.loop-k.invariant
