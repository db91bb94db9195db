use Rattle.std.proofs.Common.{length}
use Rattle.problem.proofs.moduli.+product.Given as goal

abbrev pub decreases-product : goal.decreases-product
decreases-product l = length l.moduli.now
