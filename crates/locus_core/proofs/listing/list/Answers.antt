use Rattle.problem.specs.Problems.{view}
use Rattle.locus_core.proofs.Ranking.{list_works, list_refused}
use Rattle.locus_core.proofs.listing.list.Goals as goal

pub returns-then-not-is_listable : goal.returns-then-not-is_listable
returns-then-not-is_listable g c =
    list_refused _ _ _ _ _ _ (view c.in_ok-problem.problem) c.in_ok-problem.ensures c.count.ensures.value
    (λ h. let listable = c.is_listable.ensures.1 h in let other = c.if-not-is_listable.true in let bad : ⊥ = cc in bad)

pub returns : goal.returns
returns g c =
    list_works _ _ _ _ _ (view c.in_ok-problem.problem) c.listed.result _ c.or_refusal.ensures c.in_ok-problem.ensures
    (c.is_listable.ensures.0 c.if-not-is_listable.false) c.listed.ensures.status c.listed.ensures.text c.listed.ensures.shares
