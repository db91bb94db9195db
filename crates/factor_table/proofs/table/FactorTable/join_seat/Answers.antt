use Rattle.std.proofs.lemmas.List.{nil_from_length}
use Rattle.factor_table.proofs.Keys.{some_word}
use Rattle.factor_table.proofs.Moves.{joins}
use Rattle.factor_table.proofs.table.FactorTable.join_seat.Goals as goal

pub join_seat-requires : goal.join_seat-requires
join_seat-requires c =
    let t = c.args.self.now in
    (c.requires.seat.0, c.requires.other.0, nil_from_length _ c.args.other.no_slot, some_word t.parameters t.layout.sizes _ t.layout.limits t.laid_out t.counted, joins (Unit {0}) t.table.shared.key _ _ _ _)
