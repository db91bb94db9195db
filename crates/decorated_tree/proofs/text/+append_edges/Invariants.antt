use Rattle.std.proofs.Common.{length}
use Rattle.decorated_tree.proofs.text.+append_edges.Given as goal

abbrev pub decreases-append_edges : goal.decreases-append_edges
decreases-append_edges l = length l.edges.now
