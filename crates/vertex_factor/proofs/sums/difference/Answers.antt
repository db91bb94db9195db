use Rattle.arithmetic.proofs.Modular.{Leaves-sub}
use Rattle.vertex_factor.proofs.sums.difference.Goals as goal

pub returns : goal.returns
returns c = Leaves-sub c.weight_modulo.ensures c.weight_modulo-2.ensures c.sub.ensures.value
