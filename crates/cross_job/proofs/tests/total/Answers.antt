use Rattle.std.proofs.Common.{◌<◌, sym, subst, arith}
use Rattle.localisation.specs.Agreement.{modulus_at}
use Rattle.lists.proofs.Padding.{zeros}
use Rattle.problem.specs.Problems.{view}
use Rattle.problem.proofs.ProblemLaws.{modulus_above}
use Rattle.cross_job.proofs.tests.total.Goals as goal

pub add_column-requires-clause-reduced : goal.add_column-requires-clause-reduced
add_column-requires-clause-reduced c = λ place h.
    let p = c.args.problem.now in
    let above = modulus_above (view p) p.rules place in
    subst (λ x. x < modulus_at p.moduli place) (sym (zeros 64 place)) (omega (arith, above))
