use Rattle.vertex_factor.proofs.plain.pair.Goals as goal

pub returns : goal.returns
returns c = c.residue.ensures _ c.pair_ratio.ensures
