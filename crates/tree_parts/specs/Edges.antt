-- Edges with the colours of their ends.
use Rattle.std.specs.Prelude.{ℕ, ◌≤◌, ◌≢◌}
use Rattle.trees.specs.Decorated.{TreeShape}
use Rattle.tree_parts.specs.declared.edges.ColouredEdge.{ColouredEdge}

-- an edge of degree a between vertices of the colours i and j
abbrev pub coloured_edge : ℕ → ℕ → ℕ → ColouredEdge
coloured_edge i j a = record { first = i; second = j; degree = a }

-- the colours of the ends differ and are at most the rank, and the degree is from 1 to that of the shape
pub record IsEdgeOf (s : TreeShape) (e : ColouredEdge) : Type 0 where
  pub first : e.first ≤ s.rank
  pub second : e.second ≤ s.rank
  pub different : e.first ≢ e.second
  pub degree_positive : 1 ≤ e.degree
  pub degree_within : e.degree ≤ s.degree
