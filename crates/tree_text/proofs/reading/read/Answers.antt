use Rattle.std.proofs.Common.{refl, sym, ap, ◌∙◌}
use Rattle.std.proofs.lemmas.Bool.{and_parts}
use Rattle.trees.specs.Texts.{tree_text}
use Rattle.decorated_tree.specs.Trees.{tree_view}
use Rattle.tree_text.proofs.Refused.{no_text_of_tree, not_of_tree, only_parts, no_tree_of_parts, not_of_shape, syntax_only, shape_only, tree_only, text_of_parts}
use Rattle.tree_text.proofs.reading.read.Goals as goal

pub returns-in-Err-clause-only_tree : goal.returns-in-Err-clause-only_tree
returns-in-Err-clause-only_tree c = no_text_of_tree c.args.shape.now c.args.text.now c.in-Err.place c.d.ensures.shape c.in-Err.ensures.refused

pub returns-in-Err-clause-accepted : goal.returns-in-Err-clause-accepted
returns-in-Err-clause-accepted c =
    (λ h. absurd cc, λ t. absurd (not_of_tree c.args.shape.now c.args.text.now c.in-Err.place c.d.ensures.shape c.in-Err.ensures.refused t))

pub returns-in-Err-clause-only_refusal : goal.returns-in-Err-clause-only_refusal
returns-in-Err-clause-only_refusal c = syntax_only c.args.shape.now c.args.text.now c.in-Err.place c.in-Err.ensures.refused

pub returns-in-Some-clause-only_tree : goal.returns-in-Some-clause-only_tree
returns-in-Some-clause-only_tree c = λ g h is.
    c.in-Some.ensures.parts ∙ only_parts c.args.shape.now c.args.text.now c.in-Ok.parts c.d.ensures.shape c.in-Ok.ensures.parts g h is

pub returns-in-Some-clause-only_refusal : goal.returns-in-Some-clause-only_refusal
returns-in-Some-clause-only_refusal c = λ error h. absurd
    (tree_only c.args.shape.now c.args.text.now (text_of_parts c.args.text.now c.in-Ok.parts c.in-Ok.ensures.parts)
    (record {
      tree = tree_view c.in-Some.tree;
      decorated = (and_parts _ _ c.in-Some.ensures.tree).1;
      is = c.in-Ok.ensures.parts.is ∙ ap tree_text (sym c.in-Some.ensures.parts);
    }) error h)

pub returns-in-None-clause-refusal : goal.returns-in-None-clause-refusal
returns-in-None-clause-refusal c = (
  text_of_parts c.args.text.now c.in-Ok.parts c.in-Ok.ensures.parts,
  not_of_shape c.args.shape.now c.args.text.now c.in-Ok.parts c.d.ensures.shape c.in-Ok.ensures.parts (c.in-None.ensures.none refl),
)

pub returns-in-None-clause-only_tree : goal.returns-in-None-clause-only_tree
returns-in-None-clause-only_tree c =
    no_tree_of_parts c.args.shape.now c.args.text.now c.in-Ok.parts c.d.ensures.shape c.in-Ok.ensures.parts (c.in-None.ensures.none refl)

pub returns-in-None-clause-accepted : goal.returns-in-None-clause-accepted
returns-in-None-clause-accepted c =
    (λ h. absurd cc, λ t. absurd (not_of_shape c.args.shape.now c.args.text.now c.in-Ok.parts c.d.ensures.shape c.in-Ok.ensures.parts (c.in-None.ensures.none refl) t))

pub returns-in-None-clause-only_refusal : goal.returns-in-None-clause-only_refusal
returns-in-None-clause-only_refusal c = shape_only c.args.shape.now c.args.text.now (text_of_parts c.args.text.now c.in-Ok.parts c.in-Ok.ensures.parts)
