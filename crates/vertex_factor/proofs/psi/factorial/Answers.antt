use Rattle.std.proofs.Common.{arith}
use Rattle.vertex_factor.proofs.Multinomials.{factorial_fits}
use Rattle.vertex_factor.proofs.psi.factorial.Goals as goal

pub overflow_mul-product : goal.overflow_mul-product
overflow_mul-product c =
    omega (arith, factorial_fits c.args.n c.loop-k.k c.loop-k.product c.loop-k.invariant c.loop-k-test.true c.requires)
