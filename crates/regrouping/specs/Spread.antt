-- Products over the vertices of a tree, spread over its edges.
use Rattle.std.specs.Prelude.{◌≢◌, ℕ, ◌<◌, ◌+◌, ◌==◌, if◌then◌else◌, List, [], ◌∷◌, map, slice_index}
use Rattle.arithmetic.specs.Fractions.{Fraction, times, product_of_fractions}
use Rattle.lists.specs.Ranges.{below}
use Rattle.localisation.specs.VertexFraction.{End}

-- the product over the vertices below n
abbrev pub over : ℕ → (ℕ → Fraction) → Fraction
over n f = product_of_fractions (map f (below n))

-- each edge joins two different vertices below n
abbrev pub JoinsBelow : ℕ → List (ℕ × ℕ) → Type 0
JoinsBelow n [] = Unit {0}
JoinsBelow n (e ∷ es) = (e.0 < n) × (e.1 < n) × (e.0 ≢ e.1) × JoinsBelow n es

abbrev pub end_of : List ℕ → ℕ → ℕ → End
end_of colours v a = record { colour = slice_index colours v; degree = a }

-- for each edge the product of what its two ends give, each at its own vertex
abbrev pub both_shares : (ℕ → End → Fraction) → List ℕ → List (ℕ × ℕ) → List ℕ → List Fraction
both_shares f colours [] degrees = []
both_shares f colours (e ∷ es) [] = []
both_shares f colours (e ∷ es) (a ∷ ds) =
    times (f e.0 (end_of colours e.1 a)) (f e.1 (end_of colours e.0 a)) ∷ both_shares f colours es ds

-- how many steps of a walk lead back to the vertex
abbrev pub children_of : List (ℕ × ℕ) → ℕ → ℕ
children_of [] v = 0
children_of (s ∷ walk) v = (if s.1 == v then 1 else 0) + children_of walk v
