use Rattle.std.proofs.Common.{◌-◌, ◌+◌, drop, []}
use Rattle.decorated_tree.proofs.Walking.{IsWalking}
use Rattle.decorated_tree.proofs.walk.walk_from_zero.Given as goal

abbrev pub invariant-loop : goal.invariant-loop
invariant-loop l = IsWalking l.n l.edges (l.n - l.counter) [] l.walk l.there

abbrev pub invariant-loop-edge : goal.invariant-loop-edge
invariant-loop-edge l = IsWalking l.n l.edges (l.n - (l.counter + 1)) (drop l.edge-index l.edges) l.walk l.there
