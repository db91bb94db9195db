use Rattle.std.proofs.Common.{subst}
use Rattle.residue.specs.Ratios.{IsRatioOf}
use Rattle.localisation.specs.Contribution.{contribution}
use Rattle.contribution.proofs.sum.contribution.Goals as goal

pub returns : goal.returns
returns c =
    c.residue.ensures _
    (subst (λ ts. IsRatioOf c.args.modulus.now (contribution c.args.setup.now ts c.args.parts.now.tree) c.contribution_ratio.result)
    c.as_slice.ensures c.contribution_ratio.ensures)
