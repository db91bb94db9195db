use Rattle.arithmetic.proofs.Modular.{Leaves-mul, Leaves-add}
use Rattle.residue.proofs.ratio.Ratio.plus.Goals as goal

pub returns : goal.returns
returns c = λ f g p q. record {
  top = Leaves-add (Leaves-mul p.top q.bottom c.mul-first.ensures.value) (Leaves-mul q.top p.bottom c.mul-second.ensures.value) c.add.ensures.value;
  bottom = Leaves-mul p.bottom q.bottom c.mul.ensures.value;
}
