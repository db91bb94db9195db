use Rattle.problem.specs.Problems.{view}
use Rattle.report.proofs.Integrals.{AreFirstFractions}
use Rattle.report.proofs.fractions.fractions.Given as goal

abbrev pub invariant-loop-integral : goal.invariant-loop-integral
invariant-loop-integral l = AreFirstFractions (view l.problem) l.residues l.integral l.found.items
