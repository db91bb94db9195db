use Rattle.std.proofs.Common.{take}
use Rattle.residue.specs.Ratios.{IsRatioOf}
use Rattle.contribution.specs.Terms.{sum_of_terms}
use Rattle.contribution.proofs.sum.terms_ratio.Given as goal

abbrev pub invariant-loop-term : goal.invariant-loop-term
invariant-loop-term l = IsRatioOf l.modulus (sum_of_terms l.setup l.parts.tree (take l.term-index l.terms)) l.sum
