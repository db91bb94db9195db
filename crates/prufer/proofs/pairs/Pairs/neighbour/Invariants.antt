use Rattle.std.proofs.Common.{◌≡◌, drop}
use Rattle.trees.specs.Words.{neighbour_of}
use Rattle.prufer.proofs.pairs.Pairs.neighbour.Given as goal

abbrev pub invariant-loop-pair : goal.invariant-loop-pair
invariant-loop-pair l = neighbour_of l.vertex (drop l.pair-index l.pair-items) ≡ neighbour_of l.vertex l.pair-items
