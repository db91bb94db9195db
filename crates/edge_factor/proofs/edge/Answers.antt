use Rattle.localisation.specs.EdgeFraction.{edge_fraction}
use Rattle.edge_factor.proofs.edge.Goals as goal

pub returns : goal.returns
returns c = c.residue.ensures (edge_fraction c.args.setup.now c.args.i c.args.j c.args.a) c.edge_ratio.ensures
