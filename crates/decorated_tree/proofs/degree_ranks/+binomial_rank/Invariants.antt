use Rattle.std.proofs.Common.{length}
use Rattle.decorated_tree.proofs.degree_ranks.+binomial_rank.Given as goal

abbrev pub decreases-binomial_rank : goal.decreases-binomial_rank
decreases-binomial_rank l = length l.degrees.now
