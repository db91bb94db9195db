use Rattle.std.proofs.Common.{length}
use Rattle.cross_job.proofs.alike.+are_same_powers.Given as goal

abbrev pub decreases-are_same_powers : goal.decreases-are_same_powers
decreases-are_same_powers l = length l.a.now
