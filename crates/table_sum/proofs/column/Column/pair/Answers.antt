use Rattle.factor_table.specs.declared.key.Key.TheVariants.{Pair}
use Rattle.factor_table.specs.Seats.{parameters_of}
use Rattle.table_sum.proofs.Lacking.{lacks_key}
use Rattle.table_sum.proofs.column.Column.pair.Goals as goal

pub returns-clause-refused : goal.returns-clause-refused
returns-clause-refused c =
    let column = c.args.self.now in
    lacks_key (parameters_of column.table.now) column.index
    (Pair c.args.c c.args.first.0 c.args.first.1 c.args.second.0 c.args.second.1)
    c.pair.result c.requires.key c.pair.ensures.value
