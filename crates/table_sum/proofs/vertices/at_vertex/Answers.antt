use Rattle.std.proofs.Common.{◌∙◌, map, sym, ap, subst, All}
use Rattle.std.proofs.lemmas.List.Elements.{All-weaker}
use Rattle.localisation.specs.ClassValue.{exponent_of, colour_of, ends_at}
use Rattle.localisation.specs.VertexFraction.{vertex_fraction}
use Rattle.vertex_factor.specs.Ends.{ends_of}
use Rattle.tree_parts.specs.Ends.{IsEndOf}
use Rattle.factor_table.specs.Seats.{parameters_of}
use Rattle.table_sum.specs.Words.{MayGive}
use Rattle.table_sum.specs.Ends.{IsEndIn}
use Rattle.table_sum.proofs.TreeKeys.{end_in}
use Rattle.table_sum.proofs.vertices.at_vertex.Goals as goal

pub vertex_residue-requires-clause-ends_at : goal.vertex_residue-requires-clause-ends_at
vertex_residue-requires-clause-ends_at c =
    let p = parameters_of c.args.column.now.table.now in
    let s = c.args.parts.now.shape in
    let colour = c.colour-colour.result in
    subst (λ k. All (IsEndIn p k) c.ends_at-ends.result.now) (sym c.colour-colour.ensures.value)
    (All-weaker (IsEndOf s (colour_of c.args.parts.now.tree c.args.vertex)) (IsEndIn p (colour_of c.args.parts.now.tree c.args.vertex))
    (λ e h. end_in p s (colour_of c.args.parts.now.tree c.args.vertex) e c.requires.shape h) c.ends_at-ends.result.now c.ends_at-ends.ensures.each)

pub returns-clause-value : goal.returns-clause-value
returns-clause-value c =
    let column = c.args.column.now in
    let ws = (parameters_of column.table.now).setup in
    let g = c.args.parts.now.tree in
    let v = c.args.vertex in
    let at_marks =
    c.as_slice.ensures.value ∙ c.exponents_of-exponents.ensures ∙ ap
    (map (exponent_of c.args.term.now)) c.marks_at.ensures.value in
    let at_colour = subst (λ k. MayGive column.modulus.now (vertex_fraction ws k (ends_of c.ends_at-ends.result.now) c.as_slice.result.now) c.vertex_residue.result)
    c.colour-colour.ensures.value c.vertex_residue.ensures.value in
    let at_ends = subst (λ es. MayGive column.modulus.now (vertex_fraction ws (colour_of g v) es c.as_slice.result.now) c.vertex_residue.result)
    c.ends_at-ends.ensures.value at_colour in
    subst
    (λ ks. MayGive column.modulus.now (vertex_fraction ws (colour_of g v) (ends_at g v) ks) c.vertex_residue.result) at_marks at_ends
