-- No sum or product overflows, since a table has fewer than 9,300,000 words; the strides are what they are named for.
use Rattle.std.proofs.Common.{arith}
use Rattle.factor_table.specs.KeyPlaces.{words_of}
use Rattle.factor_table.proofs.Strides.{limited, words_limited, strides_words}
use Rattle.factor_table.proofs.layout.Layout.words.Goals as goal

pub overflow_mul-result : goal.overflow_mul-result
overflow_mul-result c =
    let l = c.args.self.now in
    let w = strides_words l.sizes l.strides l.laid in let m = (limited l.sizes l.limits).all_limited in omega arith

pub overflow_add-result : goal.overflow_add-result
overflow_add-result c =
    let l = c.args.self.now in let w = strides_words l.sizes l.strides l.laid in let m = (limited l.sizes l.limits).all_limited in
    let first = l.laid.first_edge in let colours = l.limits.colours_limited in let moduli = l.limits.moduli_limited in omega arith

pub returns-clause-value : goal.returns-clause-value
unfolding words_of
returns-clause-value c =
    let l = c.args.self.now in
    let w = strides_words l.sizes l.strides l.laid in let first = l.laid.first_edge in omega arith

pub returns-clause-limited : goal.returns-clause-limited
unfolding words_of
returns-clause-limited c =
    let l = c.args.self.now in let w = strides_words l.sizes l.strides l.laid in let first = l.laid.first_edge in
    let limit = words_limited l.sizes l.limits in omega arith
