use Rattle.std.proofs.Common.{◌∙◌, ap, length, slice_index, arith}
use Rattle.tree_parts.proofs.EndLists.{length-pushed_at}
use Rattle.tree_parts.proofs.MarkLists.{mark_short, mark_added}
use Rattle.tree_parts.proofs.marks.marks_by_vertex.Goals as goal

pub loop-place-preserved : goal.loop-place-preserved
loop-place-preserved c =
    let i = c.loop-place.place in
    let before = c.loop-place.invariant in
    let test = c.loop-place-test.true in
    let rows = c.loop-place.marks in
    let u = slice_index c.args.vertices.now i in
    let within = c.requires.within i 0 test in
    let long = before.long in
    let new = c.push_mark.ensures in
    record {
      long = ap length new ∙ length-pushed_at rows u _ ∙ long;
      short = λ v. mark_short rows c.push_mark.new.marks u v i _ (omega (arith, within, long)) new (before.short v);
      so_far = λ v lt. mark_added c.args.vertices.now v i rows c.push_mark.new.marks (omega (arith, within, long)) new (before.so_far v lt);
    }
