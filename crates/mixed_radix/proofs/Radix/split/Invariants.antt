use Rattle.mixed_radix.proofs.Suffixes.{IsSplitFrom}
use Rattle.mixed_radix.proofs.Radix.split.Given as goal

abbrev pub invariant-loop-place : goal.invariant-loop-place
invariant-loop-place l = IsSplitFrom l.bases l.digits l.k l.rest l.place
