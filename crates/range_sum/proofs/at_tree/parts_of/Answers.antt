use Rattle.std.proofs.Common.{sym}
use Rattle.range_sum.proofs.ProblemTrees.{tree_of_rank}
use Rattle.range_sum.proofs.at_tree.parts_of.Goals as goal

pub of-requires : goal.of-requires
of-requires c =
    let p = c.args.problem.now in
    tree_of_rank p.shape c.args.tree.now c.r.result p.rules.shape c.r.ensures.value c.requires

pub returns-clause-shape : goal.returns-clause-shape
returns-clause-shape c = c.of.ensures.shape c.args.problem.now.shape (sym c.r.ensures.value) c.requires
