use Rattle.residue.proofs.Steps.{quotient_is}
use Rattle.residue.proofs.modulus.Modulus.quotient.Goals as goal

pub returns-in-Some-clause-value : goal.returns-in-Some-clause-value
returns-in-Some-clause-value c = quotient_is _ _ _ _ _ c.requires.top_below c.in-Some.ensures.inverse.1 c.mul.ensures.value
