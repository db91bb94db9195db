use Rattle.decorated_tree.proofs.Walking.{within_at}
use Rattle.decorated_tree.proofs.following.has_neighbour_of.Goals as goal

pub bounds-colours-edge : goal.bounds-colours-edge
bounds-colours-edge c = (within_at _ _ _ c.requires c.loop-edge-test.true).0
