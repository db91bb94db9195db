use Rattle.std.proofs.Common.{subst}
use Rattle.residue.specs.Ratios.{IsRatioOf}
use Rattle.localisation.specs.ClassValue.{term_value}
use Rattle.class_factor.proofs.at_tree.term_value.Goals as goal

pub returns : goal.returns
returns c =
    c.residue.ensures _
    (subst (λ g. IsRatioOf c.args.modulus.now (term_value c.args.setup.now c.args.term.now g) c.term_ratio.result) c.of-parts.ensures.tree c.term_ratio.ensures)
