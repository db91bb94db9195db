use Rattle.std.proofs.Common.{◌≡◌, ℕ, ◌+◌, ◌<◌, drop, length, slice_index}
use Rattle.trees.specs.Words.{degree_of}
use Rattle.prufer.proofs.degrees.degrees_of_edges.Given as goal

abbrev pub invariant-loop-edge : goal.invariant-loop-edge
invariant-loop-edge l = record {
  long : length l.degrees ≡ 11;
  counts : (v : ℕ) → v < 11 → slice_index l.degrees v + degree_of v (drop l.edge-index l.edges) ≡ degree_of v l.edges;
}
