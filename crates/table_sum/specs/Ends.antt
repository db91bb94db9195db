-- The ends at a vertex, and what they give.
use Rattle.std.specs.Prelude.{◌≢◌, ℕ, ◌-◌, ◌<◌, ◌≤◌, List, length, map, ℤ, pos}
use Rattle.arithmetic.specs.Fractions.{Fraction, fraction, times, product_of_fractions, sum_of_fractions, power_of_fraction}
use Rattle.localisation.specs.Weights.{tangent_product}
use Rattle.localisation.specs.VertexFraction.{End}
use Rattle.vertex_factor.specs.Ends.{flag_fraction}
use Rattle.factor_table.specs.declared.parameters.Parameters.{Parameters}

-- the end of an edge at a vertex of colour c: another colour of the table, and a degree of the table
pub record IsEndIn (p : Parameters) (c : ℕ) (e : ℕ × ℕ) : Type 0 where
  pub colour_within : e.0 < length p.setup
  pub colour_differs : e.0 ≢ c
  pub degree_positive : 1 ≤ e.1
  pub degree_within : e.1 ≤ p.degree

-- the flag of an end: the degree over the difference of the weights
abbrev pub flag_at : List ℤ → ℕ → End → Fraction
flag_at ws c e = flag_fraction ws c e.colour e.degree

-- the product of the flags, and their sum
abbrev pub product_of_flags : List ℤ → ℕ → List End → Fraction
product_of_flags ws c es = product_of_fractions (map (flag_at ws c) es)

abbrev pub sum_of_flags : List ℤ → ℕ → List End → Fraction
sum_of_flags ws c es = sum_of_fractions (map (flag_at ws c) es)

-- T^(s-1) for s ends
abbrev pub tangent_power : List ℤ → ℕ → ℕ → Fraction
tangent_power ws c s = power_of_fraction (fraction (tangent_product ws c) (pos 1)) (s - 1)

-- T^(s-1), times the product of the flags and the power n of their sum
abbrev pub power_at_ends : List ℤ → ℕ → List End → ℕ → Fraction
power_at_ends ws c es n =
    times (times (tangent_power ws c (length es)) (product_of_flags ws c es))
    (power_of_fraction (sum_of_flags ws c es) n)
