use Rattle.class_factor.proofs.at_vertex.vertex_part.Goals as goal

pub returns : goal.returns
returns c = c.residue.ensures _ c.vertex_part_ratio.ensures
