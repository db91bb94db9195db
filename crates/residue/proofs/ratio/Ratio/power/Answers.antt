use Rattle.arithmetic.proofs.Modular.{Leaves-pow}
use Rattle.residue.proofs.ratio.Ratio.power.Goals as goal

pub returns : goal.returns
returns c = λ f p. record {
  top = Leaves-pow c.args.exponent p.top c.pow.ensures.value;
  bottom = Leaves-pow c.args.exponent p.bottom c.pow-2.ensures.value;
}
