-- The fraction of a vertex (Kontsevich 1995; Graber and Pandharipande 1999). The cases with exponents of
-- psi classes are made by the same method and are this project's own definition.
use Rattle.std.specs.Prelude.{ℕ, zero, suc, ◌+◌, ◌-◌, ◌*◌, ◌/◌, nat_lt, ◌==◌, if◌then◌else◌, List, [], ◌∷◌, length, map, sum, remove, ℤ, pos, ◌+ℤ◌, ◌-ℤ◌, ◌*ℤ◌, neg_ℤ}
use Rattle.arithmetic.specs.Numbers.{power, factorial, integer_product, integer_sum}
use Rattle.arithmetic.specs.Fractions.{Fraction, fraction}
use Rattle.lists.specs.Ranges.{below}
use Rattle.lists.specs.Digits.{product_of}
use Rattle.localisation.specs.Weights.{weight, tangent_product}

-- an end at a vertex: the colour of the neighbour and the degree of the edge
pub record End : Type 0 where
  pub colour : ℕ
  pub degree : ℕ

-- the difference of the weights at the two ends of an edge
abbrev pub difference : List ℤ → ℕ → End → ℤ
difference ws c e = weight ws c -ℤ weight ws e.colour

-- the product of the differences
abbrev pub product_of_differences : List ℤ → ℕ → List End → ℤ
product_of_differences ws c es = integer_product (map (difference ws c) es)

-- the degree of an end
abbrev pub degree_at : List End → ℕ → ℕ
degree_at [] u = 0
degree_at (e ∷ es) zero = e.degree
degree_at (e ∷ es) (suc u) = degree_at es u

-- the sum over the ends of the degree times the differences of the other ends
abbrev pub crossed_sum : List ℤ → ℕ → List End → ℤ
crossed_sum ws c es = integer_sum (map (λ u. pos (degree_at es u) *ℤ product_of_differences ws c (remove es u)) (below (length es)))

-- the product of the degrees
abbrev pub product_of_degrees : List End → ℤ
product_of_degrees es = integer_product (map (λ (e : End). pos e.degree) es)

-- n! over the factorials of the exponents and of what is left: the number of ways to place them, a whole number
abbrev pub multinomial : ℕ → List ℕ → ℕ
multinomial n ks = factorial n / (product_of (map factorial ks) * factorial (n - sum ks))

-- s ends and t marks, s + t at least 3, no exponents
abbrev pub stable_vertex : List ℤ → ℕ → List End → ℕ → Fraction
stable_vertex ws c es t =
    let s = length es in
    fraction
    (power (tangent_product ws c) (s - 1) *ℤ product_of_degrees es *ℤ power (crossed_sum ws c es) (s + t - 3))
    (power (product_of_differences ws c es) (s + t - 2))

-- the fraction of a vertex with these ends and t marks, no exponents: three unstable cases, and the stable one
unfoldable pub plain_vertex : List ℤ → ℕ → List End → ℕ → Fraction
plain_vertex ws c (e ∷ []) zero = fraction (difference ws c e) (pos e.degree)
plain_vertex ws c (e ∷ []) (suc zero) = fraction (pos 1) (pos 1)
plain_vertex ws c (e ∷ f ∷ []) zero =
    fraction (tangent_product ws c *ℤ pos e.degree *ℤ pos f.degree)
    (pos e.degree *ℤ difference ws c f +ℤ pos f.degree *ℤ difference ws c e)
plain_vertex ws c es t = stable_vertex ws c es t

-- s ends and t marks with the exponents ks, s + t at least 3, and their sum within the dimension s + t - 3
abbrev pub stable_psi_vertex : List ℤ → ℕ → List End → List ℕ → Fraction
stable_psi_vertex ws c es ks =
    let s = length es in
    let n = length es + length ks in
    fraction
    (power (tangent_product ws c) (s - 1) *ℤ product_of_degrees es *ℤ power (crossed_sum ws c es) (n - 3 - sum ks)
    *ℤ pos (multinomial (n - 3) ks))
    (power (product_of_differences ws c es) (n - 2 - sum ks))

-- the fraction of a vertex with exponents whose sum is above 0: one unstable case, the stable one, and 0 above the dimension
unfoldable pub psi_vertex : List ℤ → ℕ → List End → List ℕ → Fraction
psi_vertex ws c (e ∷ []) (k ∷ []) = fraction (power (neg_ℤ (difference ws c e)) k) (power (pos e.degree) k)
psi_vertex ws c es ks =
    if nat_lt (length es + length ks - 3) (sum ks) then fraction (pos 0) (pos 1) else stable_psi_vertex ws c es ks

-- the fraction of a vertex of colour c with these ends, and an exponent for each of its marks
abbrev pub vertex_fraction : List ℤ → ℕ → List End → List ℕ → Fraction
vertex_fraction ws c es ks = if sum ks == 0 then plain_vertex ws c es (length ks) else psi_vertex ws c es ks
