use Rattle.std.proofs.Common.{◌≡◌, ℕ, ◌<◌, ◌≤◌, [], filter, length, slice_index_or}
use Rattle.lists.specs.Ranges.{counted_from}
use Rattle.tree_parts.specs.Marks.{is_at}
use Rattle.tree_parts.proofs.marks.marks_by_vertex.Given as goal

abbrev pub invariant-loop-place : goal.invariant-loop-place
invariant-loop-place l = record {
  long : length l.marks ≡ 11;
  short : (v : ℕ) → length (slice_index_or l.marks v []) ≤ l.place;
  so_far : (v : ℕ) → v < 11 → slice_index_or l.marks v [] ≡ filter (is_at l.vertices v) (counted_from 1 l.place);
}
