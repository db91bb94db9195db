use Rattle.range_sum.proofs.BlockLaws.{none_in_block}
use Rattle.table_sum.proofs.sum.TableSum.add_block.Goals as goal

pub returns-clause-none : goal.returns-clause-none
returns-clause-none c =
    none_in_block c.args.self.now.problem.now c.args.first c.args.stop
    (λ place h. (c.in_ok-add_trees.ensures.added place h).is_residue.unit)
