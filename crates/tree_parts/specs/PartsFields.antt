-- What the fields of `TreeParts` hold.
use Rattle.std.specs.Prelude.{◌≡◌, ℕ, ◌-◌, ◌<◌, ◌≤◌, [], length, take, slice_index_or, IsTrue}
use Rattle.decorated_tree.specs.Shapes.{shape_of}
use Rattle.decorated_tree.specs.Trees.{tree_view, is_tree_of}
use Rattle.localisation.specs.ClassValue.{at_edges, ends_at, marks_at}
use Rattle.tree_parts.specs.declared.parts.TreeParts.TheInside.{Inside}
use Rattle.tree_parts.specs.Edges.{coloured_edge}
use Rattle.tree_parts.specs.Ends.{ends_of}
use Rattle.tree_parts.specs.Parts.{ShapedTree}

abbrev pub shaped_from : Inside → ShapedTree
shaped_from f = record { shape = shape_of f.rank f.degree f.tree.m; tree = tree_view f.tree }

-- a tree of a shape within the limits, with its own edges, ends and marks
pub record IsShaped (f : Inside) : Type 0 where
  pub degree_limited : f.degree ≤ 10
  pub marks_limited : f.tree.m ≤ 12
  pub tree : IsTrue (is_tree_of (shape_of f.rank f.degree f.tree.m) f.tree)
  pub edges : take (f.tree.n - 1) f.edges ≡ at_edges coloured_edge (tree_view f.tree)
  pub edges_long : length f.edges ≡ 10
  pub ends : (v : ℕ) → v < 11 → ends_of (slice_index_or f.ends v []) ≡ ends_at (tree_view f.tree) v
  pub ends_long : length f.ends ≡ 11
  pub marks : (v : ℕ) → v < 11 → slice_index_or f.marks v [] ≡ marks_at (tree_view f.tree) v
  pub marks_long : length f.marks ≡ 11
