use Rattle.residue.proofs.MontgomeryLaws.{entered}
use Rattle.residue.proofs.montgomery.Montgomery.enter.Goals as goal

pub returns-clause-value : goal.returns-clause-value
returns-clause-value c =
    let self = c.args.self.now in
    entered _ self.negated_inverse c.args.x self.square _ self.inverse self.square_is c.requires c.reduce.ensures.value
