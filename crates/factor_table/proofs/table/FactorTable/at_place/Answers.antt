use Rattle.std.proofs.Common.{subst, arith}
use Rattle.factor_table.specs.Factors.{modulus_in, fraction_of}
use Rattle.factor_table.specs.Rule.{IsFactorAt}
use Rattle.factor_table.proofs.Keys.{from_first, below_count, found}
use Rattle.factor_table.proofs.Moves.{looks_told}
use Rattle.factor_table.proofs.table.FactorTable.at_place.Goals as goal

pub load-found-requires : goal.load-found-requires
load-found-requires c =
    let t = c.args.self.now in let p = t.parameters in
    let below = below_count p c.args.key c.args.modulus c.args.place c.requires.key c.requires.modulus c.requires.place in let count = t.counted in (
      c.requires.seat.0,
      omega arith,
      looks_told (Unit {0}) t.table.shared.key p _ _ c.args.place _ t.told c.requires.seat.1 (from_first p c.args.key c.args.modulus c.args.place c.requires.place),
    )

pub returns-else-found-eq0-clause-value : goal.returns-else-found-eq0-clause-value
returns-else-found-eq0-clause-value c =
    let p = c.args.self.now.parameters in let place = c.args.place in let word = c.load-found.result in
    let there =
    subst (λ q. IsFactorAt q place word) c.requires.seat.1 (c.load-found.ensures.2.1 c.if-found-eq0.false) in
    c.answer_of.ensures (modulus_in p c.args.modulus) (fraction_of p c.args.key)
    (c.args.self.now.moduli_limited c.args.modulus c.requires.modulus)
    (found p c.args.key c.args.modulus place word c.requires.key c.requires.modulus c.requires.place there)
