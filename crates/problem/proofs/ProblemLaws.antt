-- What the rules of a problem say of the modulus of each sum.
use Rattle.std.proofs.Common.{ℕ, ◌%◌, ◌<◌, length, arith, mod-lt}
use Rattle.localisation.specs.Agreement.{modulus_at}
use Rattle.problem.specs.Rules.{ProblemView, KeepsRules}

-- each modulus of a problem is above 1
pub modulus_above : (p : ProblemView) → KeepsRules p → (place : ℕ) → 1 < modulus_at p.moduli place
modulus_above p rules place =
    let h = rules.moduli.each (place % length p.moduli) 0 (mod-lt place rules.moduli.least) in
    let above = h.at_least_3 in omega arith
