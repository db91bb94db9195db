-- The product of the fractions of a tree's vertices, regrouped: a part of each edge, of each step of a walk but the first, of each vertex
-- and of each mark.
use Rattle.std.specs.Prelude.{ℕ, ◌<◌, List, [], ◌∷◌, length, map, ℤ, pos}
use Rattle.arithmetic.specs.Fractions.{Fraction, fraction, times, product_of_fractions}
use Rattle.trees.specs.Decorated.{DecoratedTree}
use Rattle.classes.specs.declared.class.Class.{Class}
use Rattle.localisation.specs.Weights.{tangent_product}
use Rattle.localisation.specs.VertexFraction.{End, plain_vertex}
use Rattle.localisation.specs.ClassValue.{ends_at, marks_at, colour_of, at_vertices, class_vertex}
use Rattle.regrouping.specs.Flags.{flag_sum, share, hub}
use Rattle.regrouping.specs.Spread.{over, both_shares}

abbrev pub share_at : List ℤ → DecoratedTree → ℕ → End → Fraction
share_at ws g v e = share ws (colour_of g v) (length (ends_at g v)) e

-- what each edge gives at its two ends
abbrev pub edge_parts : List ℤ → DecoratedTree → List Fraction
edge_parts ws g = both_shares (share_at ws g) g.colours g.edges g.degrees

-- a step gives the weight of the tangent space at the vertex that it leads back to ..
abbrev pub step_part : List ℤ → DecoratedTree → ℕ × ℕ → Fraction
step_part ws g s = fraction (tangent_product ws (colour_of g s.1)) (pos 1)

-- .. and what a class has there at valence 2
abbrev pub class_step_part : List ℤ → Class → DecoratedTree → ℕ × ℕ → Fraction
class_step_part ws class g s = class_vertex ws class (colour_of g s.1) 2

abbrev pub hub_part : List ℤ → DecoratedTree → ℕ → Fraction
hub_part ws g v = hub ws (colour_of g v) (ends_at g v)

-- a mark gives the sum of the flags at its vertex
abbrev pub mark_part : List ℤ → DecoratedTree → ℕ → Fraction
mark_part ws g v = flag_sum ws (colour_of g v) (ends_at g v)

-- all of these multiplied, where rest are the steps of a walk but the first
abbrev pub tree_parts : List ℤ → DecoratedTree → List (ℕ × ℕ) → Fraction
tree_parts ws g rest =
    times (product_of_fractions (map (step_part ws g) rest))
    (times (product_of_fractions (edge_parts ws g))
    (times (over g.vertices (hub_part ws g)) (product_of_fractions (map (mark_part ws g) g.marks))))

-- the fractions of all vertices, without exponents
abbrev pub plain_vertices : List ℤ → DecoratedTree → Fraction
plain_vertices ws g = product_of_fractions (at_vertices (λ v. plain_vertex ws (colour_of g v) (ends_at g v) (length (marks_at g v))) g)

-- each is below n
abbrev pub AllBelow : ℕ → List ℕ → Type 0
AllBelow n [] = Unit {0}
AllBelow n (v ∷ vs) = (v < n) × AllBelow n vs
