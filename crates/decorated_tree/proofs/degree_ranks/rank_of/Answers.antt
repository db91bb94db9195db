use Rattle.std.proofs.Common.{sym, ◌∙◌, arith}
use Rattle.decorated_tree.proofs.DegreeRanking.{few_degrees}
use Rattle.decorated_tree.proofs.BinomialRanks.{rank_of_degrees}
use Rattle.decorated_tree.proofs.degree_ranks.rank_of.Goals as goal

pub returns : goal.returns
returns c =
    c.binomial_rank.ensures.value
    ∙ sym
    (rank_of_degrees c.args.sum c.args.degrees.now (let most = c.requires.most in omega arith) (few_degrees c.args.sum c.args.degrees.now c.requires.degrees) c.requires.degrees)
