-- No sum or product overflows, since a table has fewer than 9,300,000 words; the strides are what they are named for.
use Rattle.std.proofs.Common.{◌≤◌, ◌*◌, ap, arith}
use Rattle.factor_table.proofs.Strides.{limited}
use Rattle.factor_table.proofs.Digits.{product_le}
use Rattle.factor_table.proofs.layout.Layout.at.Goals as goal

pub overflow_mul-result : goal.overflow_mul-result
overflow_mul-result c =
    let l = c.args.self.now in let w = l.laid.words_of_modulus in let m = (limited l.sizes l.limits).of_modulus_limited in let few = l.limits.moduli_limited in
    let lt = c.requires.modulus in
    let p : c.args.modulus * l.strides.words_of_modulus ≤ 8 * 1156623 = product_le c.args.modulus 8 l.strides.words_of_modulus 1156623 (omega arith) (omega arith) in omega arith

pub overflow_add-result : goal.overflow_add-result
overflow_add-result c =
    let l = c.args.self.now in let w = l.laid.words_of_modulus in let m = (limited l.sizes l.limits).of_modulus_limited in let few = l.limits.moduli_limited in
    let lt = c.requires.modulus in
    let p : c.args.modulus * l.strides.words_of_modulus ≤ 8 * 1156623 = product_le c.args.modulus 8 l.strides.words_of_modulus 1156623 (omega arith) (omega arith) in omega arith

pub overflow_add-result-2 : goal.overflow_add-result-2
overflow_add-result-2 c =
    let l = c.args.self.now in let w = l.laid.words_of_modulus in let m = (limited l.sizes l.limits).of_modulus_limited in let few = l.limits.moduli_limited in
    let lt = c.requires.modulus in
    let p : c.args.modulus * l.strides.words_of_modulus ≤ 8 * 1156623 = product_le c.args.modulus 8 l.strides.words_of_modulus 1156623 (omega arith) (omega arith) in omega arith

pub returns : goal.returns
returns c = let l = c.args.self.now in let w = ap (λ n. c.args.modulus * n) l.laid.words_of_modulus in omega arith
