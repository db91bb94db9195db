use Rattle.std.proofs.Common.{◌≡◌, ◌+◌, ◌*◌, ◌<◌, [], length, slice_index, get_or, sym, subst, ap₂, ◌∙◌}
use Rattle.std.proofs.lemmas.Grind.{get_or_default_zero}
use Rattle.trees.specs.TreeNumbers.{tree_of}
use Rattle.localisation.specs.Contribution.{contribution}
use Rattle.problem.specs.Problems.{view}
use Rattle.tree_listing.specs.Residues.{residue_of}
use Rattle.tree_listing.specs.Values.{said}
use Rattle.tree_listing.specs.Texts.{value_line, contribution_line}
use Rattle.tree_listing.proofs.Lines.{line_next}
use Rattle.tree_listing.proofs.Values.{value_said}
use Rattle.tree_listing.proofs.text.append_contribution.Goals as goal

pub loop-index-preserved : goal.loop-index-preserved
loop-index-preserved c =
    let p = c.args.problem.now in
    let e = c.args.entry.now in
    let i = c.args.integral in
    let j = c.loop-index.index in
    let terms = get_or p.integrals i [] in
    let g = tree_of p.shape e.number in
    let ms = c.as_slice-moduli.result.now in
    let said_so = subst (λ xs. said (slice_index e.values (i * length xs + j)) ≡ residue_of (slice_index xs j) (contribution p.setup terms g))
    (sym c.as_slice-moduli.ensures)
    (value_said (view p) e.number e i j c.requires.entry c.requires.integral (subst (λ xs. j < length xs) c.as_slice-moduli.ensures c.loop-index-test.true)) in
    line_next (contribution_line p.setup terms g) ms c.loop-index.text.items c.append_value.new.text.items _ _ j c.loop-index-test.true
    c.in_ok-append_value.ensures (ap₂ value_line (c.get.ensures.value ∙ c.index-moduli-index.is ∙ get_or_default_zero ms j _ c.loop-index-test.true) said_so) c.loop-index.invariant
