use Rattle.std.proofs.Common.{All, IsTrue, ◌↔◌, subst}
use Rattle.contribution.specs.Terms.{IsBoundedTerm}
use Rattle.contribution.proofs.ExponentBounds.{enough_each}
use Rattle.contribution.proofs.limits.are_terms_for.Goals as goal

pub returns-clause-exact : goal.returns-clause-exact
returns-clause-exact c =
    subst
    (λ ts. IsTrue c.each_is_for.result ↔ All (IsBoundedTerm c.args.marks) ts) c.as_slice.ensures c.each_is_for.ensures

pub returns-clause-enough : goal.returns-clause-enough
returns-clause-enough c =
    enough_each c.each_is_for.result c.args.marks c.args.terms.now
    (subst (λ ts. IsTrue c.each_is_for.result ↔ All (IsBoundedTerm c.args.marks) ts) c.as_slice.ensures c.each_is_for.ensures)
