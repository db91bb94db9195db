use Rattle.std.proofs.Common.{arith}
use Rattle.decorated_tree.proofs.DegreeRanking.{short_tail, few_degrees, first_small}
use Rattle.decorated_tree.proofs.degree_ranks.+binomial_rank.Goals as goal

pub overflow_cast-rest : goal.overflow_cast-rest
overflow_cast-rest t c =
    let l = short_tail c.args.degrees.now in let f = few_degrees c.args.sum c.args.degrees.now c.requires.degrees in let m = c.requires.most in omega arith

pub passed-requires-clause-few : goal.passed-requires-clause-few
passed-requires-clause-few t c =
    let l = short_tail c.args.degrees.now in let f = few_degrees c.args.sum c.args.degrees.now c.requires.degrees in let m = c.requires.most in omega arith

pub overflow_add-result : goal.overflow_add-result
overflow_add-result t c =
    let l = short_tail c.args.degrees.now in let f = few_degrees c.args.sum c.args.degrees.now c.requires.degrees in let m = c.requires.most in
    let s = first_small c.args.sum c.args.degrees.now c.requires.degrees in
    let p = c.passed.ensures.limited in let r = c.binomial_rank.ensures.limited in omega arith
