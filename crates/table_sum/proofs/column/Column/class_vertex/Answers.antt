use Rattle.factor_table.specs.declared.key.Key.TheVariants.{ClassVertex}
use Rattle.factor_table.specs.Seats.{parameters_of}
use Rattle.table_sum.proofs.Lacking.{lacks_key}
use Rattle.table_sum.proofs.column.Column.class_vertex.Goals as goal

pub returns-clause-refused : goal.returns-clause-refused
returns-clause-refused c =
    let column = c.args.self.now in
    lacks_key (parameters_of column.table.now) column.index
    (ClassVertex c.args.class c.args.c c.args.s) c.class_vertex.result c.requires.key c.class_vertex.ensures.value
