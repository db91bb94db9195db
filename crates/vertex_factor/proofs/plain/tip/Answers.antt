use Rattle.localisation.specs.VertexFraction.{plain_vertex}
use Rattle.vertex_factor.proofs.plain.tip.Goals as goal

pub returns : goal.returns
unfolding plain_vertex
returns c = record { top = c.difference.ensures; bottom = c.of_u64.ensures }
