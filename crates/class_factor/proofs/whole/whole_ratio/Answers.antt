use Rattle.class_factor.proofs.Values.{parts_value}
use Rattle.class_factor.proofs.whole.whole_ratio.Goals as goal

pub returns-in-Hypersurface : goal.returns-in-Hypersurface
returns-in-Hypersurface c =
    rw (parts_value c.args.setup.now c.args.class.now c.args.parts.now.tree c.in-Hypersurface.is)
    (c.times.ensures _ _ c.edge_parts-edges.ensures c.vertex_parts.ensures)
