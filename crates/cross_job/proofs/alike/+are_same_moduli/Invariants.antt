use Rattle.std.proofs.Common.{length}
use Rattle.cross_job.proofs.alike.+are_same_moduli.Given as goal

abbrev pub decreases-are_same_moduli : goal.decreases-are_same_moduli
decreases-are_same_moduli l = length l.a.now
