use Rattle.factor_table.specs.declared.key.Key.TheVariants.{ClassEdge}
use Rattle.factor_table.specs.Seats.{parameters_of}
use Rattle.table_sum.proofs.Lacking.{lacks_key}
use Rattle.table_sum.proofs.column.Column.class_edge.Goals as goal

pub returns-clause-refused : goal.returns-clause-refused
returns-clause-refused c =
    let column = c.args.self.now in
    lacks_key (parameters_of column.table.now) column.index
    (ClassEdge c.args.class c.args.i c.args.j c.args.a) c.class_edge.result c.requires.key c.class_edge.ensures.value
