use Rattle.class_factor.proofs.at_edge.edge_part.Goals as goal

pub returns : goal.returns
returns c = c.residue.ensures _ c.edge_part_ratio.ensures
