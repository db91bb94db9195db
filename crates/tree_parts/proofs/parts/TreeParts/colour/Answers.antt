use Rattle.tree_parts.proofs.Shaped.{below_eleven, colour_within}
use Rattle.tree_parts.proofs.parts.TreeParts.colour.Goals as goal

pub bounds-self-inside-vertex : goal.bounds-self-inside-vertex
bounds-self-inside-vertex c =
    below_eleven c.self.inside c.args.self.now c.args.vertex c.self.invariant c.self.view_is c.requires

pub returns-clause-within : goal.returns-clause-within
returns-clause-within c =
    colour_within c.self.inside c.args.self.now c.args.vertex c.self.invariant c.self.view_is c.requires
