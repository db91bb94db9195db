use Rattle.problem.proofs.ModulusLists.{coprime_rest, coprime_first}
use Rattle.problem.proofs.moduli.+are_coprime.Goals as goal

pub returns-then-is_coprime_to : goal.returns-then-is_coprime_to
returns-then-is_coprime_to t c =
    coprime_rest c.are_coprime.result c.first-item.result c.args.moduli.now _ c.in-len1-up.len_at_least c.first-item.is
    (c.is_coprime_to.ensures.0 c.if-is_coprime_to.true) c.are_coprime.ensures

pub returns-else-is_coprime_to : goal.returns-else-is_coprime_to
returns-else-is_coprime_to t c =
    coprime_first c.is_coprime_to.result c.first-item.result c.args.moduli.now _ c.in-len1-up.len_at_least c.first-item.is c.is_coprime_to.ensures c.if-is_coprime_to.false
