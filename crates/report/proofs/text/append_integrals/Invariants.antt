use Rattle.std.proofs.Common.{◌≡◌, ◌++◌, drop}
use Rattle.problem.specs.Problems.{view}
use Rattle.report.specs.Texts.{lines_from}
use Rattle.report.proofs.text.append_integrals.Given as goal

abbrev pub invariant-loop-integral : goal.invariant-loop-integral
invariant-loop-integral l =
    l.text.items ++ lines_from (view l.problem) l.residues l.integral (drop l.integral l.fractions)
    ≡ l.initial.text.items ++ lines_from (view l.problem) l.residues 0 l.fractions
