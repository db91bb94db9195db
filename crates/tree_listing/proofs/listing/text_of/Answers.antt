use Rattle.std.proofs.Common.{◌++◌, ap, ◌∙◌, arith}
use Rattle.problem.specs.Problems.{view}
use Rattle.tree_listing.specs.Texts.{tree_lines, trees_text}
use Rattle.tree_listing.proofs.Lines.{lines_next, lines_done}
use Rattle.tree_listing.proofs.listing.text_of.Goals as goal

pub loop-number-preserved : goal.loop-number-preserved
loop-number-preserved c =
    let p = view c.args.problem.now in
    let before = c.loop-number.invariant in
    let from = before.from in
    let below = c.loop-number-test.true in
    record {
      from = omega arith;
      lines = lines_next (tree_lines p) c.loop-number.text.items c.append_tree.new.text.items _ c.loop-number.number c.args.end (omega (arith, below))
          (c.in_ok-append_tree.ensures ∙ ap (λ k. c.loop-number.text.items ++ tree_lines p k) c.entry_of.ensures.number)
          before.lines;
    }

pub returns : goal.returns
unfolding trees_text
returns c =
    let past = c.loop-number-test.false in
    lines_done (tree_lines (view c.args.problem.now)) c.loop-number.text.items _ c.loop-number.number c.args.end (omega (arith, past))
    c.loop-number.invariant.lines
