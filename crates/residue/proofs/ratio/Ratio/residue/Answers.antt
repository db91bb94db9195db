use Rattle.residue.proofs.Quotients.{quotient_gives}
use Rattle.residue.proofs.ratio.Ratio.residue.Goals as goal

pub returns : goal.returns
returns c = λ f p.
    let given = c.quotient.ensures in
    quotient_gives f _ p.top p.bottom given.refused given.unit given.value
