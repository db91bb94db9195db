use Rattle.prufer.proofs.DegreeCounts.{upward_at}
use Rattle.prufer.proofs.Trees.{edge_list}
use Rattle.prufer.proofs.edges.Edges.pair.Goals as goal

pub returns-clause-upward : goal.returns-clause-upward
returns-clause-upward c =
    rw c.as_slice.ensures.value
    (upward_at c.args.self.now c.args.place (edge_list c.args.self.now c.as_slice.ensures.form).upward c.requires)
