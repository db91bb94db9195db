use Rattle.residue.proofs.MontgomeryLaws.{square_value}
use Rattle.residue.proofs.montgomery.Montgomery.squared.Goals as goal

pub returns-clause-value : goal.returns-clause-value
returns-clause-value c = square_value _ _ c.args.f _ c.reduce.ensures.value
