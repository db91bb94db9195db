use Rattle.std.proofs.Common.{sym, arith}
use Rattle.std.proofs.lemmas.List.Elements.{All-more, All-same}
use Rattle.std.proofs.lemmas.List.{take_all}
use Rattle.vertex_factor.specs.Ends.{IsEndAt}
use Rattle.vertex_factor.proofs.tests.are_ends.Goals as goal

pub loop-colour-preserved : goal.loop-colour-preserved
loop-colour-preserved c =
    All-more (IsEndAt c.args.setup.now c.args.c) c.args.ends.now c.loop-colour.colour-index
    (0, 0) c.loop-colour-test.true c.loop-colour.invariant
    (record { colour_within = omega arith; colour_differs = c.if-colour-c.false; degree_positive = omega arith; degree_limited = omega arith })

pub returns : goal.returns
returns c =
    All-same (IsEndAt c.args.setup.now c.args.c) c.args.ends.now _
    (sym (take_all c.loop-colour.colour-index c.args.ends.now c.loop-colour-test.false)) c.loop-colour.invariant
