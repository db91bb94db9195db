use Rattle.recover_fraction.proofs.Stops.{IsRun}
use Rattle.recover_fraction.proofs.recovery.recover.Given as goal

abbrev pub invariant-loop-smaller : goal.invariant-loop-smaller
invariant-loop-smaller l = IsRun l.m l.x l.a l.larger l.smaller l.of_larger l.of_smaller l.negative

abbrev pub decreases-loop-smaller : goal.decreases-loop-smaller
decreases-loop-smaller l = l.smaller
