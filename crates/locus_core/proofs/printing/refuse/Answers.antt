use Rattle.std.proofs.Common.{sym, subst}
use Rattle.locus_core.specs.Steps.{Refuses, read_fault, no_memory}
use Rattle.locus_core.proofs.Ended.{problem_refuses, checkpoint_refuses, tree_refuses, range_refuses}
use Rattle.locus_core.proofs.printing.refuse.Goals as goal

pub returns-in-ReadFault-clause-refuses : goal.returns-in-ReadFault-clause-refuses
returns-in-ReadFault-clause-refuses g c = subst (Refuses _ _) (sym c.in-ReadFault.is) (read_fault c.end.ensures.status c.end.ensures.line)

pub returns-in-NoMemory-clause-refuses : goal.returns-in-NoMemory-clause-refuses
returns-in-NoMemory-clause-refuses g c =
    subst (Refuses _ _) (sym c.in-NoMemory.is) (no_memory c.end-in-NoMemory.ensures.status c.end-in-NoMemory.ensures.line)

pub returns-in-Problem-clause-refuses : goal.returns-in-Problem-clause-refuses
returns-in-Problem-clause-refuses g c =
    subst (Refuses _ _) (sym c.in-Problem.is)
    (problem_refuses (λ line. line.items) _ _ c.in-Problem.error c.problem_line.result c.problem_line.ensures c.end_with.ensures.line c.end_with.ensures.no_line)

pub returns-in-Checkpoint-clause-refuses : goal.returns-in-Checkpoint-clause-refuses
returns-in-Checkpoint-clause-refuses g c =
    subst (Refuses _ _) (sym c.in-Checkpoint.is)
    (checkpoint_refuses (λ line. line.items) _ _ c.in-Checkpoint.error c.checkpoint_line.result c.checkpoint_line.ensures c.end_with-in-Checkpoint.ensures.line c.end_with-in-Checkpoint.ensures.no_line)

pub returns-in-Tree-clause-refuses : goal.returns-in-Tree-clause-refuses
returns-in-Tree-clause-refuses g c =
    subst (Refuses _ _) (sym c.in-Tree.is)
    (tree_refuses (λ line. line.items) _ _ c.in-Tree.error c.tree_line.result c.tree_line.ensures c.end_with-in-Tree.ensures.line c.end_with-in-Tree.ensures.no_line)

pub returns-in-Range-clause-refuses : goal.returns-in-Range-clause-refuses
returns-in-Range-clause-refuses g c =
    subst (Refuses _ _) (sym c.in-Range.is)
    (range_refuses (λ line. line.items) _ _ c.in-Range.count c.range_line.result c.range_line.ensures c.end_with-in-Range.ensures.line c.end_with-in-Range.ensures.no_line)
