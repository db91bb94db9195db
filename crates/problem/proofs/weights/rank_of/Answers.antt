use Rattle.std.proofs.Common.{pos, arith}
use Rattle.std.proofs.lemmas.List.Elements.{All-more}
use Rattle.residue.specs.Limits.{IsWeight}
use Rattle.problem.proofs.weights.rank_of.Goals as goal

pub loop-colour-preserved : goal.loop-colour-preserved
loop-colour-preserved c =
    All-more IsWeight c.args.setup.now c.loop-colour.colour (pos 0)
    (omega (arith, c.loop-colour-test.true, c.rank-rank.ensures.value)) c.loop-colour.invariant
    (rw (← c.weight.ensures.value) c.weight.ensures.within)
