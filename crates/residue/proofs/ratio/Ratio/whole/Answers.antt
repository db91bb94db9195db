use Rattle.residue.proofs.ratio.Ratio.whole.Goals as goal

pub returns : goal.returns
returns c = λ z h. record { top = h; bottom = c.of_u64.ensures }
