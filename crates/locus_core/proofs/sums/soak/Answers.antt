use Rattle.std.proofs.lemmas.Bool.{false≢true}
use Rattle.locus_core.proofs.Generated.{fresh_residues, soaks}
use Rattle.locus_core.proofs.sums.soak.Goals as goal

pub advance_problem-requires-clause-residues : goal.advance_problem-requires-clause-residues
advance_problem-requires-clause-residues g c κs within = fresh_residues _ _ c.in_ok-problem.ensures

pub returns-clause-done : goal.returns-clause-done
returns-clause-done g c =
    soaks _ c.args.number c.args.workers _ c.in_ok-progress.progress _ c.in_ok-report.report.text.items _ _ c.in_ok-problem.ensures c.in_ok-problem.problem.rules
    c.in_ok-progress.ensures.progress
    (λ early. false≢true (c.in_ok-progress.ensures.stopped early).0) (c.in_ok-progress.ensures.kept (λ early. false≢true (c.in_ok-progress.ensures.stopped early).0)) c.in_ok-report.ensures c.as_slice.ensures.value c.in_ok-with_heading.ensures
