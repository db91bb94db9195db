use Rattle.std.proofs.Common.{length, sym, subst, All}
use Rattle.std.proofs.lemmas.List.Elements.{All-weaker}
use Rattle.localisation.specs.ClassValue.{colour_of, ends_at}
use Rattle.localisation.specs.VertexFraction.{plain_vertex}
use Rattle.vertex_factor.specs.Ends.{ends_of}
use Rattle.tree_parts.specs.Ends.{IsEndOf}
use Rattle.factor_table.specs.Seats.{parameters_of}
use Rattle.table_sum.specs.Words.{MayGive}
use Rattle.table_sum.specs.Ends.{IsEndIn}
use Rattle.table_sum.proofs.TreeKeys.{end_in}
use Rattle.table_sum.proofs.vertices.at_plain_vertex.Goals as goal

pub plain_residue-requires-clause-ends_at : goal.plain_residue-requires-clause-ends_at
plain_residue-requires-clause-ends_at c =
    let p = parameters_of c.args.column.now.table.now in
    let s = c.args.parts.now.shape in
    let colour = colour_of c.args.parts.now.tree c.args.vertex in
    subst (λ k. All (IsEndIn p k) c.ends_at-ends.result.now) (sym c.colour-colour.ensures.value)
    (All-weaker (IsEndOf s colour) (IsEndIn p colour)
    (λ e h. end_in p s colour e c.requires.shape h) c.ends_at-ends.result.now c.ends_at-ends.ensures.each)

pub returns-clause-value : goal.returns-clause-value
returns-clause-value c =
    let column = c.args.column.now in
    let ws = (parameters_of column.table.now).setup in
    let g = c.args.parts.now.tree in
    let v = c.args.vertex in
    let at_colour = subst (λ k. MayGive column.modulus.now (plain_vertex ws k (ends_of c.ends_at-ends.result.now) (length c.marks_at-marks.result.now)) c.plain_residue.result)
    c.colour-colour.ensures.value c.plain_residue.ensures.value in
    let at_ends = subst (λ es. MayGive column.modulus.now (plain_vertex ws (colour_of g v) es (length c.marks_at-marks.result.now)) c.plain_residue.result)
    c.ends_at-ends.ensures.value at_colour in
    subst
    (λ js. MayGive column.modulus.now (plain_vertex ws (colour_of g v) (ends_at g v) (length js)) c.plain_residue.result) c.marks_at-marks.ensures.value at_ends
