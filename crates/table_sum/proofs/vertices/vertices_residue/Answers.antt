use Rattle.std.proofs.Common.{sym, subst}
use Rattle.std.specs.Bool.{OnTrue}
use Rattle.regrouping.specs.TermParts.{IsPsiFree}
use Rattle.regrouping.proofs.Contributions.{vertex_factors-plain}
use Rattle.factor_table.specs.Seats.{parameters_of}
use Rattle.table_sum.specs.Words.{MayGive}
use Rattle.table_sum.proofs.vertices.vertices_residue.Goals as goal

pub returns-then-is_psi_free-clause-value : goal.returns-then-is_psi_free-clause-value
returns-then-is_psi_free-clause-value c =
    let column = c.args.column.now in
    let free = subst (λ b. OnTrue b (IsPsiFree c.args.term.now)) c.if-is_psi_free.true c.is_psi_free.ensures in
    subst (λ f. MayGive column.modulus.now f c.plain_vertices_residue.result)
    (sym (vertex_factors-plain (parameters_of column.table.now).setup c.args.term.now c.args.parts.now.tree free)) c.plain_vertices_residue.ensures.value
