use Rattle.std.proofs.lemmas.Result.{on_ok_weaker}
use Rattle.decorated_tree.proofs.Growing.{grows_on, five_grow, six_more}
use Rattle.decorated_tree.proofs.text.append_edge.Goals as goal

pub returns-clause-text : goal.returns-clause-text
returns-clause-text c =
    on_ok_weaker c.append_number-3.result
    (λ h. six_more _ _ _ _ _ _ _ _ _ _ _ _ _ c.in_ok-append.ensures.text c.in_ok-append_number.ensures.text c.in_ok-append-2.ensures.text c.in_ok-append_number-2.ensures.text c.in_ok-append-3.ensures.text h)
    c.append_number-3.ensures.text

pub returns-clause-grows : goal.returns-clause-grows
returns-clause-grows c =
    grows_on _ _ _
    (five_grow _ _ _ _ _ _ _ _ _ _ _ c.in_ok-append.ensures.text c.in_ok-append_number.ensures.text c.in_ok-append-2.ensures.text c.in_ok-append_number-2.ensures.text c.in_ok-append-3.ensures.text)
    c.append_number-3.ensures.grows
