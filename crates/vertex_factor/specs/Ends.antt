-- The ends of edges at a vertex, as they are handed in, and the fraction of one of them.
use Rattle.std.specs.Prelude.{◌≢◌, ℕ, ◌<◌, ◌≤◌, List, length, map, ℤ, pos, ◌-ℤ◌}
use Rattle.arithmetic.specs.Fractions.{Fraction, fraction}
use Rattle.localisation.specs.Weights.{weight}
use Rattle.localisation.specs.VertexFraction.{End}

-- the end of an edge of degree a, beside a vertex of colour u
abbrev pub end : ℕ → ℕ → End
end u a = record { colour = u; degree = a }

-- pairs of a neighbour's colour and a degree, as ends
abbrev pub ends_of : List (ℕ × ℕ) → List End
ends_of ps = map (λ p. end p.0 p.1) ps

-- a neighbour of another colour than c, and a degree from 1 to 10
pub record IsEndAt (ws : List ℤ) (c : ℕ) (p : ℕ × ℕ) : Type 0 where
  pub colour_within : p.0 < length ws
  pub colour_differs : p.0 ≢ c
  pub degree_positive : 1 ≤ p.1
  pub degree_limited : p.1 ≤ 10

-- the fraction of a flag: the degree over the difference of the weights
abbrev pub flag_fraction : List ℤ → ℕ → ℕ → ℕ → Fraction
flag_fraction ws c u a = fraction (pos a) (weight ws c -ℤ weight ws u)
