use Rattle.factor_table.proofs.Keys.{some_word}
use Rattle.factor_table.proofs.Moves.{splits}
use Rattle.factor_table.proofs.table.FactorTable.split_seat.Goals as goal

pub split_seat-other-requires : goal.split_seat-other-requires
split_seat-other-requires c =
    let t = c.args.self.now in
    (c.requires.0, some_word t.parameters t.layout.sizes _ t.layout.limits t.laid_out t.counted, splits (Unit {0}) t.table.shared.key _ _)
