use Rattle.arithmetic.proofs.Modular.{Leaves-mul}
use Rattle.residue.proofs.ratio.Ratio.times.Goals as goal

pub returns : goal.returns
returns c = λ f g p q. record {
  top = Leaves-mul p.top q.top c.mul.ensures.value;
  bottom = Leaves-mul p.bottom q.bottom c.mul-2.ensures.value;
}
