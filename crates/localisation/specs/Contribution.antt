-- The contribution of a decorated tree to an integral, and sums of contributions (Kontsevich 1995).
use Rattle.std.specs.Prelude.{ℕ, ◌-◌, List, map, ℤ, pos}
use Rattle.arithmetic.specs.Numbers.{factorial}
use Rattle.arithmetic.specs.Fractions.{Fraction, fraction, times, product_of_fractions, sum_of_fractions}
use Rattle.trees.specs.Decorated.{DecoratedTree, TreeShape, all_trees}
use Rattle.trees.specs.TreeNumbers.{numbered_trees}
use Rattle.classes.specs.declared.class.Term.{Term}
use Rattle.localisation.specs.EdgeFraction.{edge_fraction}
use Rattle.localisation.specs.VertexFraction.{vertex_fraction}
use Rattle.localisation.specs.ClassValue.{ends_at, colour_of, at_edges, at_vertices, term_value, exponents_at}

-- the product of the fractions of all edges
abbrev pub edge_factors : List ℤ → DecoratedTree → Fraction
edge_factors ws g = product_of_fractions (at_edges (edge_fraction ws) g)

-- the product of the fractions of all vertices, under the exponents of a term
abbrev pub vertex_factors : List ℤ → Term → DecoratedTree → Fraction
vertex_factors ws term g =
    product_of_fractions (at_vertices (λ v. vertex_fraction ws (colour_of g v) (ends_at g v) (exponents_at term g v)) g)

-- a term's vertex fractions and its value
abbrev pub term_factor : List ℤ → DecoratedTree → Term → Fraction
term_factor ws g term = times (vertex_factors ws term g) (term_value ws term g)

-- the contribution of a tree to an integral: the sum over its terms, times the edge fractions, over n!
unfoldable pub contribution : List ℤ → List Term → DecoratedTree → Fraction
contribution ws terms g =
    times (fraction (pos 1) (pos (factorial g.vertices)))
    (times (edge_factors ws g) (sum_of_fractions (map (term_factor ws g) terms)))

-- the sum of the contributions of a list of trees
abbrev pub sum_over : List ℤ → List Term → List DecoratedTree → Fraction
sum_over ws terms gs = sum_of_fractions (map (contribution ws terms) gs)

-- Kontsevich's sum of an integral: over all decorated trees, those of n vertices divided by n!
unfoldable pub kontsevich_sum : List ℤ → TreeShape → List Term → Fraction
kontsevich_sum ws shape terms = sum_over ws terms (all_trees shape)

-- the partial sum over the trees of the numbers from lo to hi - 1
unfoldable pub partial_sum : List ℤ → TreeShape → ℕ → ℕ → List Term → Fraction
partial_sum ws shape lo hi terms = sum_over ws terms (numbered_trees shape lo (hi - lo))
