use Rattle.std.proofs.Common.{rules, sym, subst}
use Rattle.problem.specs.Rules.{ProblemView}
use Rattle.problem.specs.Problems.{view}
use Rattle.checkpoint.specs.States.{AreResidues}
use Rattle.rounds.specs.Outcomes.{IsOfProblem}
use Rattle.rounds.proofs.tests.chain.Goals as goal

-- what a call came to is of its problem, and so is the pause from which the next call goes on
pub loop-calls-preserved : goal.loop-calls-preserved
loop-calls-preserved g c =
    let p : ProblemView = view c.state-2.inside.problem in
    let of : IsOfProblem p c.in_ok-progress.progress.outcome = search rules in
    let at = c.in-Some.ensures p of in record {
      next = at.0;
      residues = subst (AreResidues p) (sym c.in_ok-residues-2.ensures.items) at.1;
    }
