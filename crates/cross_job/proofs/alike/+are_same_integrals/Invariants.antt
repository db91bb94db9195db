use Rattle.std.proofs.Common.{length}
use Rattle.cross_job.proofs.alike.+are_same_integrals.Given as goal

abbrev pub decreases-are_same_integrals : goal.decreases-are_same_integrals
decreases-are_same_integrals l = length l.a.now
