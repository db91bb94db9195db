use Rattle.std.proofs.Common.{subst}
use Rattle.residue.specs.Ratios.{IsRatioOf}
use Rattle.localisation.specs.ClassValue.{class_value}
use Rattle.class_factor.proofs.at_tree.whole_part.Goals as goal

pub returns : goal.returns
returns c =
    c.residue.ensures _
    (subst (λ g. IsRatioOf c.args.modulus.now (class_value c.args.setup.now c.args.class.now g) c.whole_ratio.result) c.of-parts.ensures.tree c.whole_ratio.ensures)
