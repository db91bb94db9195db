use Rattle.table_sum.proofs.Powers.{power_none, power_one}
use Rattle.table_sum.proofs.column.Column.power.Goals as goal

pub returns-then-exponent-eq0-clause-value : goal.returns-then-exponent-eq0-clause-value
returns-then-exponent-eq0-clause-value c =
    power_none c.args.x c.args.exponent c.args.self.now.modulus.now c.if-exponent-eq0.true c.args.self.now.above

pub returns-then-exponent-eq1-clause-value : goal.returns-then-exponent-eq1-clause-value
returns-then-exponent-eq1-clause-value c =
    power_one c.args.x c.args.exponent c.args.self.now.modulus.now c.if-exponent-eq1.true c.requires
