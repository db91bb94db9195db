use Rattle.mixed_radix.proofs.Suffixes.{IsCarriedTo}
use Rattle.mixed_radix.proofs.Radix.next.Given as goal

abbrev pub invariant-loop-place : goal.invariant-loop-place
invariant-loop-place l = IsCarriedTo l.bases l.fn.digits l.digits l.place
