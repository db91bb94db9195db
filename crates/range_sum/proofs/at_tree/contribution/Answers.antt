use Rattle.std.proofs.Common.{[], get_or, slice_index, subst}
use Rattle.residue.specs.Answers.{GivesResidue}
use Rattle.localisation.specs.Contribution.{contribution}
use Rattle.range_sum.proofs.at_tree.contribution.Goals as goal

pub returns : goal.returns
returns c =
    let p = c.args.problem.now in
    subst
    (λ g. GivesResidue (slice_index p.moduli c.args.modulus) (contribution p.setup (get_or p.integrals c.args.integral []) g) c.tree_residue.result) c.parts_of.ensures.tree
    c.tree_residue.ensures
