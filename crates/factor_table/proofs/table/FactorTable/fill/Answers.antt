use Rattle.std.proofs.Common.{◌≢◌, sym, subst, arith}
use Rattle.factor_table.proofs.Words.{word_not_zero}
use Rattle.factor_table.proofs.Keys.{from_first, below_count, written}
use Rattle.factor_table.proofs.Moves.{fills_told}
use Rattle.factor_table.proofs.table.FactorTable.fill.Goals as goal

pub compare_exchange-requires : goal.compare_exchange-requires
compare_exchange-requires c =
    let t = c.args.self.now in let p = t.parameters in let key = c.args.key in let m = c.args.modulus in
    let below = below_count p key m c.args.place c.requires.key c.requires.modulus c.requires.place in let count = t.counted in (
      c.requires.seat.0,
      omega arith,
      fills_told (Unit {0}) t.table.shared.key p _ _ c.args.place c.word_for-word.result _ t.told
          (from_first p key m c.args.place c.requires.place) below
          (subst (λ n. n ≢ 0) (sym c.word_for-word.ensures) (word_not_zero c.factor-answer.result))
          (written p key m c.args.place c.word_for-word.result c.get-modulo.result.now c.factor-answer.result c.requires.key c.requires.modulus c.requires.place c.get-modulo.ensures c.factor-answer.ensures c.word_for-word.ensures),
    )
