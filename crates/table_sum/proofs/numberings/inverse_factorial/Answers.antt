use Rattle.residue.proofs.Quotients.{quotient_gives}
use Rattle.table_sum.specs.Numberings.{one_numbering}
use Rattle.table_sum.proofs.numberings.inverse_factorial.Goals as goal

pub returns : goal.returns
returns c =
    let given = c.quotient.ensures in
    quotient_gives (one_numbering c.args.n) _ c.of_u64.ensures c.factorial.ensures given.refused given.unit given.value
