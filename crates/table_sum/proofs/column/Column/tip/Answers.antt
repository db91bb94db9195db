use Rattle.factor_table.specs.declared.key.Key.TheVariants.{Tip}
use Rattle.factor_table.specs.Seats.{parameters_of}
use Rattle.table_sum.proofs.Lacking.{lacks_key}
use Rattle.table_sum.proofs.column.Column.tip.Goals as goal

pub returns-clause-refused : goal.returns-clause-refused
returns-clause-refused c =
    let column = c.args.self.now in
    lacks_key (parameters_of column.table.now) column.index
    (Tip c.args.c c.args.u c.args.a) c.tip.result c.requires.key c.tip.ensures.value
