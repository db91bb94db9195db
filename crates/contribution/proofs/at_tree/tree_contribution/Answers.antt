use Rattle.std.proofs.Common.{All, subst, sym}
use Rattle.residue.specs.Answers.{GivesResidue}
use Rattle.localisation.specs.Contribution.{contribution}
use Rattle.contribution.specs.Terms.{IsTermFor}
use Rattle.contribution.proofs.at_tree.tree_contribution.Goals as goal

pub contribution-requires-clause-terms : goal.contribution-requires-clause-terms
contribution-requires-clause-terms c =
    subst (λ m. All (IsTermFor m) c.args.terms.now) (sym c.of-parts.ensures.marks) c.requires.terms

pub returns : goal.returns
returns c =
    subst
    (λ g. GivesResidue c.args.modulus.now (contribution c.args.setup.now c.args.terms.now g) c.contribution.result) c.of-parts.ensures.tree c.contribution.ensures
