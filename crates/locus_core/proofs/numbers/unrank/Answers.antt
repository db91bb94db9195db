use Rattle.std.proofs.Common.{◌<◌, subst}
use Rattle.problem.specs.Problems.{view}
use Rattle.locus_core.proofs.Ranking.{unrank_works, unrank_refused}
use Rattle.locus_core.proofs.numbers.unrank.Goals as goal

pub returns-then-number-count : goal.returns-then-number-count
returns-then-number-count g c =
    unrank_refused _ _ _ _ (view c.in_ok-problem.problem) c.in_ok-problem.ensures c.count-count.ensures.value c.if-number-count.true

pub returns : goal.returns
returns g c =
    unrank_works _ _ _ (view c.in_ok-problem.problem) c.written.result _ c.or_refusal.ensures c.in_ok-problem.ensures
    (subst (λ k. c.args.number < k) c.count-count.ensures.value c.if-number-count.false) c.written.ensures.status c.written.ensures.text c.written.ensures.shares
