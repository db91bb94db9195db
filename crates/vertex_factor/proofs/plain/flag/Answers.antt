use Rattle.residue.proofs.Quotients.{quotient_gives}
use Rattle.vertex_factor.specs.Ends.{flag_fraction}
use Rattle.vertex_factor.proofs.plain.flag.Goals as goal

pub returns : goal.returns
returns c =
    let given = c.quotient.ensures in
    quotient_gives (flag_fraction c.args.setup.now c.args.c c.args.u c.args.a) _
    c.of_u64.ensures
    c.difference.ensures
    given.refused given.unit given.value
