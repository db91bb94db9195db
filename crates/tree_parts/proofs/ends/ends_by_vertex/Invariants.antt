use Rattle.std.proofs.Common.{◌≡◌, ℕ, ◌<◌, ◌≤◌, [], take, length, slice_index_or}
use Rattle.localisation.specs.ClassValue.{ends_among}
use Rattle.tree_parts.specs.Ends.{ends_of}
use Rattle.tree_parts.proofs.ends.ends_by_vertex.Given as goal

abbrev pub invariant-loop-place : goal.invariant-loop-place
invariant-loop-place l = record {
  long : length l.ends ≡ 11;
  short : (v : ℕ) → length (slice_index_or l.ends v []) ≤ l.place;
  so_far : (v : ℕ) → v < 11
      → ends_of (slice_index_or l.ends v []) ≡ ends_among v l.colours (take l.place l.pairs) (take l.place l.degrees);
}
