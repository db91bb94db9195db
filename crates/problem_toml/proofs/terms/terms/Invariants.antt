use Rattle.problem_toml.proofs.TermArrays.{AreTermsUpTo}
use Rattle.problem_toml.proofs.terms.terms.Given as goal

abbrev pub invariant-loop-value : goal.invariant-loop-value
invariant-loop-value l = AreTermsUpTo l.version l.marks l.first l.values l.value-index l.terms.items
