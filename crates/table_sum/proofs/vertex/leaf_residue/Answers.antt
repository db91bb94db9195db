use Rattle.std.proofs.Common.{subst}
use Rattle.arithmetic.specs.Fractions.{IsResidue}
use Rattle.factor_table.specs.Seats.{parameters_of}
use Rattle.table_sum.proofs.Powers.{residue_negated}
use Rattle.table_sum.proofs.VertexLaws.{leaf-is}
use Rattle.table_sum.proofs.vertex.leaf_residue.Goals as goal

pub returns-clause-value : goal.returns-clause-value
returns-clause-value c =
    let column = c.args.column.now in
    let ws = (parameters_of column.table.now).setup in
    subst (λ f. IsResidue column.modulus.now f c.sub.result) (leaf-is ws c.args.c c.args.only.0 c.args.only.1)
    (residue_negated column.above c.in_ok-tip.ensures.value c.of_u64-zero.ensures c.sub.ensures.value)
