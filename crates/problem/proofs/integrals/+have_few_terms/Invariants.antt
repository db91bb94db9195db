use Rattle.std.proofs.Common.{length}
use Rattle.problem.proofs.integrals.+have_few_terms.Given as goal

abbrev pub decreases-have_few_terms : goal.decreases-have_few_terms
decreases-have_few_terms l = length l.integrals.now
