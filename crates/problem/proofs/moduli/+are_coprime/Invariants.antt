use Rattle.std.proofs.Common.{length}
use Rattle.problem.proofs.moduli.+are_coprime.Given as goal

abbrev pub decreases-are_coprime : goal.decreases-are_coprime
decreases-are_coprime l = length l.moduli.now
