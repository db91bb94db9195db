use Rattle.std.proofs.Common.{arith, ap, length}
use Rattle.lists.proofs.Padding.{length-front, padded-set}
use Rattle.decorated_tree.proofs.walk.Walk.push.Goals as goal

pub invariant_of-self : goal.invariant_of-self
invariant_of-self c =
    padded-set (0, 0) 10 _ _ c.args.step
    (omega (arith, length-front (0, 0) 10 c.self.inside.count c.self.inside.steps c.self.invariant, ap length c.self.view_is)) c.self.invariant
