use Rattle.std.proofs.Common.{refl, sym, subst, ◌+◌, arith}
use Rattle.range_sum.proofs.RangeLaws.{IsTreeUpTo}
use Rattle.range_sum.proofs.BlockLaws.{no_ratios, ratios_more}
use Rattle.range_sum.proofs.block.block_ratios.Goals as goal
use Rattle.range_sum.proofs.block.block_ratios.Goals.{then-k-stop, else-k-stop}

pub loop-k-init : goal.loop-k-init
loop-k-init c = record {
  from = omega arith;
  tree = λ h. c.tree-tree.ensures.value;
  decorated = c.tree-tree.ensures.decorated;
  marks = c.tree-tree.ensures.marks;
  padded = c.tree-tree.ensures.padded;
  ratios = no_ratios c.args.problem.now c.args.start _ refl;
}

pub loop-k-preserved : goal.loop-k-preserved
loop-k-preserved c =
    let p = c.args.problem.now in
    let k = c.loop-k.k in
    let from = c.loop-k.invariant.from in
    let value = c.loop-k.invariant.tree c.loop-k-test.true in
    let tree : IsTreeUpTo p.shape c.args.stop (k + 1) c.if-k-stop.tree =
    elim c.if-k-stop.branch [
      | then-k-stop w ↦ subst (IsTreeUpTo p.shape c.args.stop (k + 1)) (sym w.tree-is) (record {
        value = λ h. w.next.ensures.value;
        decorated = w.next.ensures.decorated;
        marks = w.next.ensures.marks;
        padded = w.next.ensures.padded;
      })
      | else-k-stop w ↦ subst (IsTreeUpTo p.shape c.args.stop (k + 1)) (sym w.tree-is) (record {
        value = λ h. absurd (let past = w.if-k-stop.false in omega arith);
        decorated = c.loop-k.invariant.decorated;
        marks = c.loop-k.invariant.marks;
        padded = c.loop-k.invariant.padded;
      })
    ] in
    record {
      from = omega arith;
      tree = tree.value;
      decorated = tree.decorated;
      marks = tree.marks;
      padded = tree.padded;
      ratios = ratios_more p c.args.start k _ _ _ from value c.loop-k.invariant.ratios c.add_tree.ensures;
    }
