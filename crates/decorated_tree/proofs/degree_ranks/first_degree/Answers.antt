use Rattle.decorated_tree.proofs.DegreeRanking.{first_step, first_less}
use Rattle.std.proofs.Common.{arith}
use Rattle.decorated_tree.proofs.degree_ranks.first_degree.Goals as goal

pub returns-then-rest-passed-clause-less : goal.returns-then-rest-passed-clause-less
returns-then-rest-passed-clause-less c =
    first_less c.args.sum c.args.others c.args.rank c.loop-degree.degree c.loop-degree.rest c.requires.some c.loop-degree-test.true
    (let t = c.if-rest-passed.true in let e = c.choose-passed.ensures.value in omega arith)

pub loop-degree-preserved : goal.loop-degree-preserved
loop-degree-preserved c =
    first_step c.args.sum c.args.others c.args.rank c.loop-degree.degree c.loop-degree.rest c.choose-passed.result c.requires.some c.loop-degree-test.true
    c.choose-passed.ensures.value c.if-rest-passed.false c.loop-degree.invariant
