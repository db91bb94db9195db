-- The row at a vertex holds the ends at that vertex, since the parts are those of a decorated tree; their number and
-- the limits of each follow from its shape.
use Rattle.std.proofs.Common.{◌<◌, sym, subst, ◌∙◌}
use Rattle.tree_parts.proofs.Shaped.{own_row, below_eleven, shaped_ends, shaped_each, shaped_some, shaped_most}
use Rattle.tree_parts.proofs.parts.TreeParts.ends_at.Goals as goal

pub listed : goal.listed
listed c =
    subst (λ n. c.args.vertex < n) (sym c.self.invariant.ends_long)
    (below_eleven c.self.inside c.args.self.now c.args.vertex c.self.invariant c.self.view_is c.requires)

pub bounds-self-inside-vertex : goal.bounds-self-inside-vertex
bounds-self-inside-vertex c =
    below_eleven c.self.inside c.args.self.now c.args.vertex c.self.invariant c.self.view_is c.requires

pub returns-clause-value : goal.returns-clause-value
returns-clause-value c =
    shaped_ends c.self.inside c.args.self.now c.args.vertex c.as_slice.result.now c.self.invariant c.self.view_is c.requires
    (c.as_slice.ensures.value ∙ own_row c.self.inside.ends c.args.vertex c.index-self-vertex.result c.self.invariant.ends_long (below_eleven c.self.inside c.args.self.now c.args.vertex c.self.invariant c.self.view_is c.requires))

pub returns-clause-each : goal.returns-clause-each
returns-clause-each c =
    shaped_each c.self.inside c.args.self.now c.args.vertex c.as_slice.result.now c.self.invariant c.self.view_is c.requires
    (c.as_slice.ensures.value ∙ own_row c.self.inside.ends c.args.vertex c.index-self-vertex.result c.self.invariant.ends_long (below_eleven c.self.inside c.args.self.now c.args.vertex c.self.invariant c.self.view_is c.requires))

pub returns-clause-some : goal.returns-clause-some
returns-clause-some c =
    shaped_some c.self.inside c.args.self.now c.args.vertex c.as_slice.result.now c.self.invariant c.self.view_is c.requires
    (c.as_slice.ensures.value ∙ own_row c.self.inside.ends c.args.vertex c.index-self-vertex.result c.self.invariant.ends_long (below_eleven c.self.inside c.args.self.now c.args.vertex c.self.invariant c.self.view_is c.requires))

pub returns-clause-most : goal.returns-clause-most
returns-clause-most c =
    shaped_most c.self.inside c.args.self.now c.args.vertex c.as_slice.result.now c.self.invariant c.self.view_is c.requires
    (c.as_slice.ensures.value ∙ own_row c.self.inside.ends c.args.vertex c.index-self-vertex.result c.self.invariant.ends_long (below_eleven c.self.inside c.args.self.now c.args.vertex c.self.invariant c.self.view_is c.requires))
