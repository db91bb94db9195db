use Rattle.std.proofs.Common.{arith, ap, length}
use Rattle.lists.proofs.Padding.{length-front, padded-set}
use Rattle.tree_parts.proofs.marks.Marks.push.Goals as goal

pub invariant_of-self : goal.invariant_of-self
invariant_of-self c =
    padded-set 0 12 _ _ c.args.mark
    (omega (arith, length-front 0 12 c.self.inside.count c.self.inside.items c.self.invariant, ap length c.self.view_is)) c.self.invariant
