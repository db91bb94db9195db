-- A term without psi classes at a tree, as a product over the edges and the vertices alone. An edge takes all that its ends give, and the
-- fractions of the term's classes; what it gives depends on the colours and the valences of its ends and its degree, and on nothing else
-- of the tree.
use Rattle.std.specs.Prelude.{ℕ, zero, suc, ◌+◌, ◌-◌, List, [], ◌∷◌, length, map, ℤ, pos}
use Rattle.arithmetic.specs.Numbers.{factorial}
use Rattle.arithmetic.specs.Fractions.{Fraction, fraction, times, product_of_fractions, sum_of_fractions, power_of_fraction}
use Rattle.trees.specs.Decorated.{DecoratedTree}
use Rattle.classes.specs.declared.class.Term.{Term}
use Rattle.localisation.specs.EdgeFraction.{edge_fraction}
use Rattle.localisation.specs.VertexFraction.{End, plain_vertex}
use Rattle.localisation.specs.ClassValue.{ends_at, marks_at, colour_of, class_vertex}
use Rattle.localisation.specs.Contribution.{edge_factors, term_factor}
use Rattle.regrouping.specs.Extensions.{inverse_fraction}
use Rattle.regrouping.specs.Flags.{flag, flag_sum, tangent_part}
use Rattle.regrouping.specs.Spread.{over}
use Rattle.regrouping.specs.TermEdges.{over_classes, term_edge, term_whole}
use Rattle.regrouping.specs.Ops.{with_degrees}

-- what an end gives to its edge at a vertex of s ends: one over its flag at a leaf, 1 at a vertex of two ends, and its flag at others
abbrev pub end_share : List ℤ → ℕ → ℕ → End → Fraction
end_share ws c (suc zero) e = inverse_fraction (flag ws c e)
end_share ws c (suc (suc zero)) e = fraction (pos 1) (pos 1)
end_share ws c s e = flag ws c e

-- an edge of degree a between vertices of the colours i and j, of s and u ends
abbrev pub dressed_edge : List ℤ → Term → ℕ → ℕ → ℕ → ℕ → ℕ → Fraction
dressed_edge ws term i j a s u =
    times (edge_fraction ws i j a)
    (times (times (end_share ws i s (record { colour = j; degree = a })) (end_share ws j u (record { colour = i; degree = a }))) (term_edge ws term i j a))

-- the fractions of the term's classes at a vertex of s ends
abbrev pub term_vertex : List ℤ → Term → ℕ → ℕ → Fraction
term_vertex ws term c s = over_classes term.classes (λ class. class_vertex ws class c s)

-- what the edges leave of a vertex: 1 at a leaf, the fraction of the vertex at two ends, and the power of the weight of the tangent space
-- at more, each with the fractions of the term's classes ..
abbrev pub dressed_vertex : List ℤ → Term → ℕ → List End → Fraction
dressed_vertex ws term c (e ∷ []) = fraction (pos 1) (pos 1)
dressed_vertex ws term c (e ∷ f ∷ []) = times (plain_vertex ws c (e ∷ f ∷ []) 0) (term_vertex ws term c 2)
dressed_vertex ws term c es = times (tangent_part ws c (length es)) (term_vertex ws term c (length es))

-- .. and a power of the sum of its flags, with one factor for each mark
abbrev pub flag_power : List ℤ → ℕ → List End → ℕ → Fraction
flag_power ws c es t = power_of_fraction (flag_sum ws c es) (length es - 3 + t)

-- ---- at a tree
abbrev pub valence_of : DecoratedTree → ℕ → ℕ
valence_of g v = length (ends_at g v)

-- an edge x.0 with its degree x.1
abbrev pub dressed_edge_at : List ℤ → Term → DecoratedTree → (ℕ × ℕ) × ℕ → Fraction
dressed_edge_at ws term g x =
    dressed_edge ws term (colour_of g (x.0).0) (colour_of g (x.0).1) x.1 (valence_of g (x.0).0) (valence_of g (x.0).1)

abbrev pub flag_power_at : List ℤ → DecoratedTree → ℕ → Fraction
flag_power_at ws g v = flag_power ws (colour_of g v) (ends_at g v) (length (marks_at g v))

abbrev pub dressed_vertex_at : List ℤ → Term → DecoratedTree → ℕ → Fraction
dressed_vertex_at ws term g v = times (dressed_vertex ws term (colour_of g v) (ends_at g v)) (flag_power_at ws g v)

-- what a term adds to the contribution of a tree, but for n!
abbrev pub dressed_term : List ℤ → DecoratedTree → Term → Fraction
dressed_term ws g term =
    times (fraction term.coefficient (pos 1))
    (times (product_of_fractions (map (dressed_edge_at ws term g) (with_degrees g.edges g.degrees)))
    (times (over g.vertices (dressed_vertex_at ws term g)) (term_whole ws term g)))

-- the same, with each edge and vertex as it stands in the contribution
abbrev pub whole_term : List ℤ → DecoratedTree → Term → Fraction
whole_term ws g term = times (edge_factors ws g) (term_factor ws g term)

-- the sum of fractions for each term, over n! for n vertices
abbrev pub numbered_sum : DecoratedTree → (Term → Fraction) → List Term → Fraction
numbered_sum g f terms = times (fraction (pos 1) (pos (factorial g.vertices))) (sum_of_fractions (map f terms))
