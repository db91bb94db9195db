use Rattle.std.proofs.Common.{pos, sym, subst}
use Rattle.arithmetic.specs.Fractions.{fraction, IsResidue}
use Rattle.localisation.specs.Weights.{tangent_product}
use Rattle.factor_table.specs.Seats.{parameters_of}
use Rattle.table_sum.proofs.column.Column.tangent.Goals as goal

pub returns-clause-value : goal.returns-clause-value
returns-clause-value c =
    let column = c.args.self.now in
    subst
    (λ m. IsResidue m (fraction (tangent_product (parameters_of column.table.now).setup c.args.c) (pos 1)) c.tangent.result)
    (sym column.is_modulus) c.tangent.ensures.value
