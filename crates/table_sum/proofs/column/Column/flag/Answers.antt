use Rattle.factor_table.specs.declared.key.Key.TheVariants.{Flag}
use Rattle.factor_table.specs.Seats.{parameters_of}
use Rattle.table_sum.proofs.Lacking.{lacks_key}
use Rattle.table_sum.proofs.column.Column.flag.Goals as goal

pub returns-clause-refused : goal.returns-clause-refused
returns-clause-refused c =
    let column = c.args.self.now in
    lacks_key (parameters_of column.table.now) column.index
    (Flag c.args.c c.args.u c.args.a) c.flag.result c.requires.key c.flag.ensures.value
