use Rattle.mixed_radix.proofs.Suffixes.{IsJoinedUpTo}
use Rattle.mixed_radix.proofs.Radix.join.Given as goal

abbrev pub invariant-loop-base : goal.invariant-loop-base
invariant-loop-base l = IsJoinedUpTo l.self l.digits l.number l.base-iterator.a.rest.now l.base-iterator.b.rest.now
