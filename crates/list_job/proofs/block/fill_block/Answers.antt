use Rattle.std.proofs.Common.{◌-◌, ◌∙◌, length-set, refl, arith}
use Rattle.problem.specs.Problems.{view}
use Rattle.trees.specs.TreeNumbers.{tree_of}
use Rattle.table_sum.specs.Sums.{problem_of, table_of}
use Rattle.table_sum.proofs.Later.{later_after}
use Rattle.table_sum.proofs.SumLaws.{trees_next}
use Rattle.list_job.proofs.Filling.{filled_next, other_place}
use Rattle.list_job.proofs.block.fill_block.Goals as goal

pub loop-k-preserved : goal.loop-k-preserved
loop-k-preserved c =
    let p = problem_of c.args.sum.now in
    let k = c.loop-k.k in
    let first = c.args.first in
    let before = c.loop-k.invariant in
    let places = c.loop-k.part.entries.items in
    let e = c.entry_of_tree-entry.result in
    let from = before.from in
    let room = before.room in
    record {
      from = omega arith;
      room = length-set places (k - first) _ ∙ room;
      filled = filled_next (view p) places first c.args.start k e c.requires.from from (omega arith) c.entry_of_tree-entry.ensures.entry before.filled;
      below = λ place h. other_place places (k - first) place e (λ same. absurd (omega arith)) ∙ before.below place h;
      above = λ place h. other_place places (k - first) place e (λ same. absurd (omega arith)) ∙ before.above place (omega arith);
      seat = later_after _ _ _ _ before.seat c.entry_of_tree-entry.ensures.seat;
      edges = trees_next (view p) (table_of c.args.sum.now) _ _ (tree_of p.shape k) c.args.start k c.entry_of_tree-entry.ensures.seat refl before.edges
          c.entry_of_tree-entry.ensures.edges;
    }
