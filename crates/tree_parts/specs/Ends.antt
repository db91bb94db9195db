-- Ends of edges.
use Rattle.std.specs.Prelude.{ℕ, ◌≤◌, ◌≢◌, List, map}
use Rattle.trees.specs.Decorated.{TreeShape}
use Rattle.localisation.specs.VertexFraction.{End}

-- pairs of a neighbour's colour and a degree, as ends
abbrev pub ends_of : List (ℕ × ℕ) → List End
ends_of ps = map (λ p. record { colour = p.0; degree = p.1 }) ps

-- at a vertex of colour c: the neighbour's colour is another one and at most the rank, and the degree is from 1 to that
-- of the shape
pub record IsEndOf (s : TreeShape) (c : ℕ) (e : ℕ × ℕ) : Type 0 where
  pub colour : e.0 ≤ s.rank
  pub different : e.0 ≢ c
  pub degree_positive : 1 ≤ e.1
  pub degree_within : e.1 ≤ s.degree
