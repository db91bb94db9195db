use Rattle.std.proofs.Common.{pos}
use Rattle.arithmetic.proofs.Residues.{IsResidue-whole}
use Rattle.factor_table.specs.Factors.{class_at}
use Rattle.factor_table.specs.Seats.{parameters_of}
use Rattle.table_sum.proofs.ClassLaws.{vertex_of_leaf}
use Rattle.table_sum.proofs.class_values.vertex_part.Goals as goal

pub returns-then-valence-eq1-clause-value : goal.returns-then-valence-eq1-clause-value
returns-then-valence-eq1-clause-value c =
    let p = parameters_of c.args.column.now.table.now in
    rw (vertex_of_leaf p.setup (class_at p c.args.index) c.args.c c.args.valence c.if-valence-eq1.true) (IsResidue-whole (pos 1) c.of_u64.ensures)
