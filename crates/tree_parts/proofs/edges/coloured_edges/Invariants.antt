use Rattle.std.proofs.Common.{◌≡◌, take, length}
use Rattle.localisation.specs.ClassValue.{along_edges}
use Rattle.tree_parts.specs.Edges.{coloured_edge}
use Rattle.tree_parts.proofs.edges.coloured_edges.Given as goal

abbrev pub invariant-loop-place : goal.invariant-loop-place
invariant-loop-place l = record {
  long : length l.edges ≡ 10;
  so_far : take l.place l.edges ≡ along_edges coloured_edge l.colours (take l.place l.pairs) (take l.place l.degrees);
}
