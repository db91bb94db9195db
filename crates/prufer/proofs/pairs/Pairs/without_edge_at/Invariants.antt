use Rattle.std.proofs.Common.{◌≡◌, ◌≤◌, ◌++◌, drop, length, if◌then◌else◌}
use Rattle.trees.specs.Words.{cut_off}
use Rattle.prufer.proofs.pairs.Pairs.without_edge_at.Given as goal

abbrev pub invariant-loop-pair : goal.invariant-loop-pair
invariant-loop-pair l = record {
  short : length l.fewer ≤ l.pair-index;
  whole : l.fewer ++ (if l.found then drop l.pair-index l.pair-items else cut_off l.vertex (drop l.pair-index l.pair-items)) ≡ cut_off l.vertex l.pair-items;
}
