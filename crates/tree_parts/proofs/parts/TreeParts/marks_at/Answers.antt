use Rattle.std.proofs.Common.{◌<◌, sym, subst, ◌∙◌}
use Rattle.tree_parts.proofs.Shaped.{own_row, below_eleven, shaped_marks}
use Rattle.tree_parts.proofs.parts.TreeParts.marks_at.Goals as goal

pub listed : goal.listed
listed c =
    subst (λ n. c.args.vertex < n) (sym c.self.invariant.marks_long)
    (below_eleven c.self.inside c.args.self.now c.args.vertex c.self.invariant c.self.view_is c.requires)

pub bounds-self-inside-vertex : goal.bounds-self-inside-vertex
bounds-self-inside-vertex c =
    below_eleven c.self.inside c.args.self.now c.args.vertex c.self.invariant c.self.view_is c.requires

pub returns-clause-value : goal.returns-clause-value
returns-clause-value c =
    shaped_marks c.self.inside c.args.self.now c.args.vertex c.as_slice.result.now c.self.invariant c.self.view_is c.requires
    (c.as_slice.ensures.value ∙ own_row c.self.inside.marks c.args.vertex c.index-self-vertex.result c.self.invariant.marks_long (below_eleven c.self.inside c.args.self.now c.args.vertex c.self.invariant c.self.view_is c.requires))
