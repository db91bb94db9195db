use Rattle.std.proofs.Common.{ap, ap₂, ◌∙◌, take}
use Rattle.std.proofs.lemmas.Result.{on_ok_weaker}
use Rattle.trees.specs.Texts.{edges_text, numbers_text, marks_text}
use Rattle.decorated_tree.proofs.Growing.{grows_on, five_grow, six_more, same_more}
use Rattle.decorated_tree.proofs.text.append_tree.Goals as goal

pub returns-clause-text : goal.returns-clause-text
returns-clause-text c =
    on_ok_weaker c.append_marks.result
    (λ h. six_more _ _ _ _ _ _ _ _ _ _ _ _ _ c.in_ok-append.ensures.text
    (same_more _ _ _ _ c.in_ok-append_edges.ensures.text (ap₂ edges_text c.as_slice.ensures.value (c.used.ensures ∙ ap (λ k. take k c.args.tree.now.degrees) c.saturating_sub.ensures)))
    c.in_ok-append-2.ensures.text
    (same_more _ _ _ _ c.in_ok-append_numbers.ensures.text (ap numbers_text c.used-2.ensures))
    c.in_ok-append-3.ensures.text (same_more _ _ _ _ h (ap marks_text c.used-3.ensures)))
    c.append_marks.ensures.text

pub returns-clause-grows : goal.returns-clause-grows
returns-clause-grows c =
    grows_on _ _ _
    (five_grow _ _ _ _ _ _ _ _ _ _ _ c.in_ok-append.ensures.text c.in_ok-append_edges.ensures.text c.in_ok-append-2.ensures.text c.in_ok-append_numbers.ensures.text c.in_ok-append-3.ensures.text)
    c.append_marks.ensures.grows
