use Rattle.std.proofs.Common.{◌≡◌, take}
use Rattle.prufer.proofs.pairs.Pairs.of.Given as goal

abbrev pub invariant-loop-pair : goal.invariant-loop-pair
invariant-loop-pair l = l.kept ≡ take l.pair-index l.pairs
