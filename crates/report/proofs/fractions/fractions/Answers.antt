use Rattle.std.proofs.Common.{◌+◌, List, Option, subst, sym, arith}
use Rattle.recover_fraction.specs.declared.recovery.Fraction.{Fraction}
use Rattle.problem.specs.Problems.{view}
use Rattle.report.proofs.Integrals.{AreFirstFractions, one_more, all_fractions}
use Rattle.report.proofs.fractions.fractions.Goals as goal

pub loop-integral-preserved : goal.loop-integral-preserved
loop-integral-preserved c =
    let p = view c.args.problem.now in
    subst (AreFirstFractions p c.args.residues.now (c.loop-integral.integral + 1))
    (sym {A = List (Option Fraction)} c.in_ok-push.ensures.items)
    (one_more p c.args.residues.now c.loop-integral.integral c.loop-integral.found.items c.fraction.result c.loop-integral.invariant c.fraction.ensures)

pub returns : goal.returns
returns c =
    all_fractions (view c.args.problem.now) c.args.residues.now c.loop-integral.integral c.loop-integral.found.items
    (omega arith) c.loop-integral.invariant
