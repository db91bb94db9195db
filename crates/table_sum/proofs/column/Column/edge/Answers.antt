use Rattle.factor_table.specs.declared.key.Key.TheVariants.{Edge}
use Rattle.factor_table.specs.Seats.{parameters_of}
use Rattle.table_sum.proofs.Lacking.{lacks_key}
use Rattle.table_sum.proofs.column.Column.edge.Goals as goal

pub returns-clause-refused : goal.returns-clause-refused
returns-clause-refused c =
    let column = c.args.self.now in
    lacks_key (parameters_of column.table.now) column.index
    (Edge c.args.i c.args.j c.args.a) c.edge.result c.requires.key c.edge.ensures.value
