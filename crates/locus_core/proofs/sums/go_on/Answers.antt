use Rattle.std.proofs.Common.{subst}
use Rattle.problem.specs.Rules.{KeepsRules}
use Rattle.command_line.specs.Requests.{sum_of_request}
use Rattle.locus_core.specs.Begins.{plan_of}
use Rattle.locus_core.proofs.Reported.{goes_on, stop_named}
use Rattle.locus_core.proofs.sums.go_on.Goals as goal

pub returns-clause-done : goal.returns-clause-done
returns-clause-done g c =
    goes_on c.args.state _ _ c.in_ok-progress.progress _ _ (subst (λ s. KeepsRules s.problem) c.state.view_is c.state.invariant.rules) c.in_ok-progress.ensures.progress (λ early. stop_named (λ x. x.now) c.args.request.stop_file _ (c.in_ok-progress.ensures.stopped early))
    c.in_ok-progress.ensures.kept (c.in_ok-status.ensures (plan_of (sum_of_request c.args.request)))
