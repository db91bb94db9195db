use Rattle.std.proofs.Common.{sym, subst}
use Rattle.std.proofs.lemmas.Option.{get_or_from_slice_get}
use Rattle.arithmetic.specs.Fractions.{Fraction}
use Rattle.residue.specs.Answers.{GivesResidue}
use Rattle.residue.specs.Ratios.{IsRatioOf}
use Rattle.range_sum.proofs.SumIndices.{ratio_below}
use Rattle.range_sum.proofs.at_tree.tree_residue.Goals as goal

pub residue-requires : goal.residue-requires
residue-requires c =
    let below =
    ratio_below c.args.problem.now.moduli c.args.modulus c.get.result.now _ c.tree_ratio-ratio.result c.get.ensures c.tree_ratio-ratio.ensures in
    record { top_below = below.top; bottom_below = below.bottom }

pub returns : goal.returns
returns c =
    let at_modulus = get_or_from_slice_get c.args.problem.now.moduli c.args.modulus c.get.result.now 0 c.get.ensures in
    subst (λ m. (f : Fraction) → IsRatioOf m f c.tree_ratio-ratio.result → GivesResidue m f c.residue.result)
    (sym at_modulus) c.residue.ensures _ c.tree_ratio-ratio.ensures
