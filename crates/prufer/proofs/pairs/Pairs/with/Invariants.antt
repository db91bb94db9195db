use Rattle.std.proofs.Common.{◌≡◌, ◌≤◌, ◌+◌, ◌++◌, drop, length, if◌then◌else◌}
use Rattle.trees.specs.Words.{insert_edge}
use Rattle.prufer.proofs.pairs.Pairs.with.Given as goal

abbrev pub invariant-loop-pair : goal.invariant-loop-pair
invariant-loop-pair l = record {
  short : length l.more ≤ l.pair-index + (if l.placed then 1 else 0);
  whole : l.more ++ (if l.placed then drop l.pair-index l.pair-items else insert_edge l.edge (drop l.pair-index l.pair-items)) ≡ insert_edge l.edge l.pair-items;
}
