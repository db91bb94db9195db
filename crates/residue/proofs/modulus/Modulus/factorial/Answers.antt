use Rattle.arithmetic.proofs.Modular.{Leaves-factorial}
use Rattle.residue.proofs.modulus.Modulus.factorial.Goals as goal

pub loop-k-preserved : goal.loop-k-preserved
loop-k-preserved c = Leaves-factorial c.loop-k.k c.loop-k.invariant c.of_u64.ensures c.mul-product.ensures.value
