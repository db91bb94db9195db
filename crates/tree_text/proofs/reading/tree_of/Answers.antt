use Rattle.std.proofs.Common.{refl, sym, ap, ◌∙◌}
use Rattle.std.proofs.lemmas.Bool.{false_from_ne_true, both_ways, not_from_false}
use Rattle.decorated_tree.specs.Trees.{is_tree_of, tree_view}
use Rattle.tree_text.proofs.Trees.{tree_has_parts, parts_make_tree, edges_in_order}
use Rattle.tree_text.proofs.reading.tree_of.Goals as goal

pub returns-in_err-tree-clause-none : goal.returns-in_err-tree-clause-none
returns-in_err-tree-clause-none c = λ _. false_from_ne_true _ (λ h.
    both_ways _ (c.in_err-tree.ensures.none refl) (edges_in_order c.args.shape.now c.args.parts.now c.requires h))

pub returns-then-is_err-clause-none : goal.returns-then-is_err-clause-none
returns-then-is_err-clause-none c = λ _. false_from_ne_true _ (λ h.
    both_ways _ (c.number.ensures.refused.0 (sym c.is_err.ensures.value ∙ c.if-is_err.true))
    (ap (is_tree_of c.args.shape.now) c.in_ok-tree.ensures.some ∙ parts_make_tree c.args.shape.now c.args.parts.now h))

pub returns-clause-parts : goal.returns-clause-parts
returns-clause-parts c =
    let same = c.in_ok-tree.ensures.some in
    let is = c.number.ensures.accepted.0 (c.is_err.ensures.negation ∙ not_from_false c.is_err.result c.if-is_err.false) in
    ap tree_view same ∙ tree_has_parts c.args.shape.now c.args.parts.now c.requires (ap (is_tree_of c.args.shape.now) (sym same) ∙ is)
