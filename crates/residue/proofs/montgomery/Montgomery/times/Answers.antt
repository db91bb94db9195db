use Rattle.residue.proofs.MontgomeryLaws.{times_value}
use Rattle.residue.proofs.montgomery.Montgomery.times.Goals as goal

pub returns-clause-value : goal.returns-clause-value
returns-clause-value c = times_value _ _ c.args.x c.args.f _ c.reduce.ensures.value
