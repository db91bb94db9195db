use Rattle.problem_toml.proofs.IntegralArrays.{AreIntegralsUpTo}
use Rattle.problem_toml.proofs.integrals.listed_integrals.Given as goal

abbrev pub invariant-loop-value : goal.invariant-loop-value
invariant-loop-value l = AreIntegralsUpTo l.marks l.values l.value-index l.before l.integrals.items
