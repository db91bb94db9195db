use Rattle.decorated_tree.proofs.Walking.{within_at}
use Rattle.decorated_tree.proofs.rank.ends_differ.Goals as goal

pub bounds-colours-edge : goal.bounds-colours-edge
bounds-colours-edge c = (within_at _ _ _ c.requires c.loop-edge-test.true).0

pub bounds-colours-edge-in-loop-edge : goal.bounds-colours-edge-in-loop-edge
bounds-colours-edge-in-loop-edge c = (within_at _ _ _ c.requires c.loop-edge-test.true).1
