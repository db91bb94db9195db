-- The fraction of an edge (Kontsevich 1995; Graber and Pandharipande 1999).
use Rattle.std.specs.Prelude.{ℕ, ◌+◌, ◌-◌, ◌*◌, ◌||◌, ◌==◌, if◌then◌else◌, List, length, ℤ, pos, negsuc, ◌-ℤ◌, ◌*ℤ◌}
use Rattle.arithmetic.specs.Numbers.{power, factorial, product_below}
use Rattle.arithmetic.specs.Fractions.{Fraction, fraction}
use Rattle.localisation.specs.Weights.{weight, between_weights}

-- the factor t L_i + (a - t) L_j - a L_k
abbrev pub colour_term : List ℤ → ℕ → ℕ → ℕ → ℕ → ℕ → ℤ
colour_term ws i j a k t = between_weights ws i j t (a - t) -ℤ pos a *ℤ weight ws k

-- its product over t from 0 to a
unfoldable pub colour_product : List ℤ → ℕ → ℕ → ℕ → ℕ → ℤ
colour_product ws i j a k = product_below (a + 1) (colour_term ws i j a k)

-- 1 at the colours i and j, which are left out
abbrev pub colour_factor : List ℤ → ℕ → ℕ → ℕ → ℕ → ℤ
colour_factor ws i j a k = if (k == i) || (k == j) then pos 1 else colour_product ws i j a k

-- the product over the colours other than i and j
unfoldable pub other_colours_product : List ℤ → ℕ → ℕ → ℕ → ℤ
other_colours_product ws i j a = product_below (length ws) (colour_factor ws i j a)

-- (-1)^a a^(2a) a^((r-1)(a+1)); r is one less than the number of weights
unfoldable pub edge_top : List ℤ → ℕ → ℤ
edge_top ws a = power (negsuc 0) a *ℤ power (pos a) (2 * a) *ℤ power (pos a) ((length ws - 1 - 1) * (a + 1))

-- a (a!)^2 (L_i - L_j)^(2a) and the product over the other colours; the first factor is for the edge's own automorphisms
unfoldable pub edge_bottom : List ℤ → ℕ → ℕ → ℕ → ℤ
edge_bottom ws i j a =
    pos a *ℤ power (pos (factorial a)) 2 *ℤ power (weight ws i -ℤ weight ws j) (2 * a) *ℤ other_colours_product ws i j a

-- the fraction of an edge with the end colours i and j and the degree a
abbrev pub edge_fraction : List ℤ → ℕ → ℕ → ℕ → Fraction
edge_fraction ws i j a = fraction (edge_top ws a) (edge_bottom ws i j a)
