use Rattle.std.proofs.Common.{sym, ◌∙◌, subst}
use Rattle.std.proofs.lemmas.Bool.{and_parts}
use Rattle.decorated_tree.specs.Trees.{tree_view}
use Rattle.problem.specs.Problems.{view}
use Rattle.tree_text.specs.Refusals.{IsRefusal}
use Rattle.locus_core.proofs.Ranking.{rank_works, rank_refused}
use Rattle.locus_core.proofs.numbers.rank.Goals as goal

pub returns-in-Ok : goal.returns-in-Ok
returns-in-Ok g c =
    rank_works _ _ _ (view c.in_ok-problem.problem) (tree_view c.in-Ok.tree) c.numbered.result _ c.or_refusal.ensures c.in_ok-problem.ensures
    (and_parts _ _ c.in-Ok.ensures.tree).1 (sym c.as_bytes.ensures.value ∙ c.in-Ok.ensures.text) c.numbered.ensures.status c.numbered.ensures.text c.numbered.ensures.shares

pub returns : goal.returns
returns g c =
    rank_refused _ _ _ (view c.in_ok-problem.problem) c.in-Err.error c.in_ok-problem.ensures
    (subst (λ t. IsRefusal c.in_ok-problem.problem.shape t c.in-Err.error) c.as_bytes.ensures.value c.in-Err.ensures.refusal)
