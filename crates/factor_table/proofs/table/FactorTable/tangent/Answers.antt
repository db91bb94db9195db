use Rattle.std.proofs.Common.{refl}
use Rattle.arithmetic.proofs.Residues.{unit_one}
use Rattle.factor_table.proofs.table.FactorTable.tangent.Goals as goal

pub unreachable-requires : goal.unreachable-requires
unreachable-requires c = c.in-Err.ensures.value.refused.0 refl (unit_one _)
