use Rattle.std.proofs.Common.{◌≤◌, ◌+◌, subst}
use Rattle.tree_parts.specs.Parts.{ShapedTree}
use Rattle.tree_parts.proofs.Shaped.{sound, vertices_most}
use Rattle.tree_parts.proofs.parts.TreeParts.vertices.Goals as goal

pub returns-clause-least : goal.returns-clause-least
returns-clause-least c = (sound c.self.inside c.self.invariant).least

pub returns-clause-most : goal.returns-clause-most
returns-clause-most c =
    subst (λ (p : ShapedTree). c.self.inside.tree.n ≤ p.shape.degree + 1) c.self.view_is
    (sound c.self.inside c.self.invariant).most

pub returns-clause-limited : goal.returns-clause-limited
returns-clause-limited c = vertices_most c.self.inside c.self.invariant
