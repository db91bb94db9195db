use Rattle.std.proofs.Common.{◌≡◌, ℕ, ◌∙◌, ap, length, get_or, slice_index, arith}
use Rattle.tree_parts.proofs.EndLists.{edge_short, edge_added, length-pushed_at, pushed_at}
use Rattle.tree_parts.proofs.ends.ends_by_vertex.Goals as goal

pub loop-place-preserved : goal.loop-place-preserved
loop-place-preserved c =
    let i = c.loop-place.place in
    let before = c.loop-place.invariant in
    let test = c.loop-place-test.true in
    let rows = c.loop-place.ends in
    let e = get_or c.args.pairs.now i (0, 0) in
    let within = c.requires.within i (0, 0) test in
    let apart = c.requires.apart i (0, 0) test in
    let vertices = c.requires.vertices in
    let first = within.0 in
    let second = within.1 in
    let long = before.long in
    let a = get_or c.args.degrees.now i 0 in
    let x : ℕ × ℕ = (slice_index c.args.colours.now e.1, a) in
    let y : ℕ × ℕ = (slice_index c.args.colours.now e.0, a) in
    let new : c.push_end-in-loop-place.new.ends ≡ pushed_at (pushed_at rows e.0 x) e.1 y =
    c.push_end-in-loop-place.ensures ∙ ap (λ r. pushed_at r e.1 y) c.push_end.ensures in
    record {
      long = ap length new ∙ length-pushed_at (pushed_at rows e.0 x) e.1 y ∙ length-pushed_at rows e.0 x ∙ long;
      short = λ v. edge_short rows c.push_end-in-loop-place.new.ends e.0 e.1 v i x y apart (omega (arith, first, vertices, long)) (omega (arith, second, vertices, long)) new (before.short v);
      so_far =
          λ v lt. edge_added v c.args.colours.now c.args.pairs.now c.args.degrees.now i rows c.push_end-in-loop-place.new.ends test c.requires.degrees apart
          (omega (arith, first, vertices, long)) (omega (arith, second, vertices, long)) new (before.so_far v lt);
    }
