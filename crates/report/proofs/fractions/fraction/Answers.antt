use Rattle.problem.specs.Problems.{view}
use Rattle.report.proofs.Integrals.{residues_for}
use Rattle.report.proofs.fractions.fraction.Goals as goal

pub agreeing_fraction-requires-clause-residues : goal.agreeing_fraction-requires-clause-residues
agreeing_fraction-requires-clause-residues c =
    residues_for (view c.args.problem.now) c.args.residues.now c.residues_of.result.now c.args.integral
    c.requires.residues c.requires.within c.residues_of.ensures.value c.residues_of.ensures.as_many
