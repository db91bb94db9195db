use Rattle.std.specs.List.{flat_map}
use Rattle.std.proofs.Common.{◌++◌, length, codes, ap, ◌∙◌, arith}
use Rattle.lists.specs.Ranges.{counted_from}
use Rattle.trees.specs.Texts.{tree_text}
use Rattle.trees.specs.TreeNumbers.{tree_of}
use Rattle.problem.specs.Problems.{view}
use Rattle.report.specs.Texts.{labelled_line}
use Rattle.tree_listing.specs.Texts.{contribution_lines}
use Rattle.tree_listing.proofs.Lines.{lines_next, lines_done, joined}
use Rattle.tree_listing.proofs.text.append_tree.Goals as goal

pub loop-integral-preserved : goal.loop-integral-preserved
loop-integral-preserved c =
    let p = c.args.problem.now in
    let below = c.loop-integral-test.true in
    let many = c.len-integral-end.ensures in
    lines_next (contribution_lines (view p) (tree_of p.shape c.args.entry.now.number)) c.loop-integral.text.items
    c.append_contribution.new.text.items _ c.loop-integral.integral (length p.integrals) (omega (arith, below, many))
    c.in_ok-append_contribution.ensures c.loop-integral.invariant

pub returns : goal.returns
returns c =
    let p = c.args.problem.now in
    let number = c.args.entry.now.number in
    let lines = contribution_lines (view p) (tree_of p.shape number) in
    let past = c.loop-integral-test.false in
    let many = c.len-integral-end.ensures in
    joined c.args.text.now.items (labelled_line (codes "tree") number) (tree_text (tree_of p.shape number)) (codes "\n")
    (flat_map lines (counted_from 0 (length p.integrals)))
    c.append_labelled_line.new.text.items c.write_text.new.to.items c.push.new.self.items c.loop-integral.text.items
    c.in_ok-append_labelled_line.ensures
    (c.in_ok-write_text.ensures.text ∙ ap (λ g. c.append_labelled_line.new.text.items ++ tree_text g) c.tree.ensures.value)
    c.in_ok-push.ensures.items
    (lines_done lines c.loop-integral.text.items _ c.loop-integral.integral (length p.integrals) (omega (arith, past, many)) c.loop-integral.invariant)
