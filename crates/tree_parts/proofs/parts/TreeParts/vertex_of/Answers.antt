use Rattle.tree_parts.proofs.Shaped.{mark_within}
use Rattle.tree_parts.proofs.parts.TreeParts.vertex_of.Goals as goal

pub returns-clause-within : goal.returns-clause-within
returns-clause-within c =
    mark_within c.self.inside c.args.self.now c.args.mark c.self.invariant c.self.view_is c.requires.least c.requires.most
