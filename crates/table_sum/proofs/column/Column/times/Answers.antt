use Rattle.table_sum.proofs.Powers.{one_times, times_one}
use Rattle.table_sum.proofs.column.Column.times.Goals as goal

pub returns-then-x-eq1-clause-value : goal.returns-then-x-eq1-clause-value
returns-then-x-eq1-clause-value c = one_times c.args.x c.args.y c.args.self.now.modulus.now c.if-x-eq1.true c.requires.y_below

pub returns-then-y-eq1-clause-value : goal.returns-then-y-eq1-clause-value
returns-then-y-eq1-clause-value c = times_one c.args.x c.args.y c.args.self.now.modulus.now c.if-y-eq1.true c.requires.x_below
