-- The values of classes and terms at a decorated tree. They are this project's own definitions, made by the method of Kontsevich
-- (1995): the names say what the classes are meant for, and nothing is stated about the geometric classes of these names.
use Rattle.std.specs.Prelude.{ℕ, ◌+◌, ◌-◌, ◌*◌, ◌==◌, if◌then◌else◌, List, [], ◌∷◌, ◌++◌, length, filter, map, sum, slice_index, ℤ, pos, ◌*ℤ◌, neg_ℤ}
use Rattle.arithmetic.specs.Numbers.{power, product_below, integer_sum_below, integer_sum}
use Rattle.arithmetic.specs.Fractions.{Fraction, fraction, times, product_of_fractions, power_of_fraction}
use Rattle.lists.specs.Ranges.{below, counted_from}
use Rattle.trees.specs.Decorated.{DecoratedTree}
use Rattle.classes.specs.declared.class.Class.{Class}
use Rattle.classes.specs.declared.class.Class.TheVariants.{Mark, Hypersurface, Incidence, R1, Contact, Psi}
use Rattle.classes.specs.declared.class.Power.{Power}
use Rattle.classes.specs.declared.class.Term.{Term}
use Rattle.localisation.specs.Weights.{weight, between_weights}
use Rattle.localisation.specs.VertexFraction.{End}

-- ---- the parts of a tree

-- the ends at a vertex, in the order of the edges
abbrev pub ends_among : ℕ → List ℕ → List (ℕ × ℕ) → List ℕ → List End
ends_among v colours [] degrees = []
ends_among v colours (e ∷ es) [] = []
ends_among v colours (e ∷ es) (a ∷ ds) =
    (if e.0 == v then record { colour = slice_index colours e.1; degree = a } ∷ [] else
    if e.1 == v then record { colour = slice_index colours e.0; degree = a } ∷ [] else []) ++ ends_among v colours es ds

abbrev pub ends_at : DecoratedTree → ℕ → List End
ends_at g v = ends_among v g.colours g.edges g.degrees

-- the marks at a vertex, which are counted from 1
abbrev pub marks_at : DecoratedTree → ℕ → List ℕ
marks_at g v = filter (λ j. slice_index g.marks (j - 1) == v) (counted_from 1 (length g.marks))

abbrev pub colour_of : DecoratedTree → ℕ → ℕ
colour_of g v = slice_index g.colours v

-- a function of the two end colours and the degree, at each edge
abbrev pub along_edges : {A : Type 0} → (ℕ → ℕ → ℕ → A) → List ℕ → List (ℕ × ℕ) → List ℕ → List A
along_edges f colours [] degrees = []
along_edges f colours (e ∷ es) [] = []
along_edges f colours (e ∷ es) (a ∷ ds) = f (slice_index colours e.0) (slice_index colours e.1) a ∷ along_edges f colours es ds

abbrev pub at_edges : {A : Type 0} → (ℕ → ℕ → ℕ → A) → DecoratedTree → List A
at_edges f g = along_edges f g.colours g.edges g.degrees

abbrev pub at_vertices : {A : Type 0} → (ℕ → A) → DecoratedTree → List A
at_vertices f g = map f (below g.vertices)

-- ---- classes with a fraction at each edge and each vertex

-- t L_i + (n - t) L_j
abbrev pub section_term : List ℤ → ℕ → ℕ → ℕ → ℕ → ℤ
section_term ws i j n t = between_weights ws i j t (n - t)

-- its product over t from 0 to n
unfoldable pub sections_product : List ℤ → ℕ → ℕ → ℕ → ℤ
sections_product ws i j n = product_below (n + 1) (section_term ws i j n)

-- the same from t = 1 on
abbrev pub inner_term : List ℤ → ℕ → ℕ → ℕ → ℕ → ℤ
inner_term ws i j n t = section_term ws i j n (t + 1)

-- its product over t from 1 to n - 1
unfoldable pub inner_product : List ℤ → ℕ → ℕ → ℕ → ℤ
inner_product ws i j n = product_below (n - 1) (inner_term ws i j n)

abbrev pub negated_inner_term : List ℤ → ℕ → ℕ → ℕ → ℕ → ℤ
negated_inner_term ws i j n t = neg_ℤ (inner_term ws i j n t)

-- the product of the negatives over t from 1 to n - 1
unfoldable pub negated_inner_product : List ℤ → ℕ → ℕ → ℕ → ℤ
negated_inner_product ws i j n = product_below (n - 1) (negated_inner_term ws i j n)

-- the fraction of a class at an edge with the end colours i and j and the degree a; 1 for the classes that have none
abbrev pub class_edge : List ℤ → Class → ℕ → ℕ → ℕ → Fraction
class_edge ws (Hypersurface b) i j a = fraction (sections_product ws i j (b * a)) (power (pos a) (b * a + 1))
class_edge ws (R1 k) i j a = fraction (negated_inner_product ws i j (k * a)) (power (pos a) (k * a - 1))
class_edge ws Contact i j a = fraction (inner_product ws i j (2 * a)) (power (pos a) (2 * a - 1))
class_edge ws (Mark j') i j a = fraction (pos 1) (pos 1)
class_edge ws (Incidence q) i j a = fraction (pos 1) (pos 1)
class_edge ws (Psi j') i j a = fraction (pos 1) (pos 1)

-- the fraction of a class at a vertex of colour c and valence s; 1 for the classes that have none
abbrev pub class_vertex : List ℤ → Class → ℕ → ℕ → Fraction
class_vertex ws (Hypersurface b) c s = fraction (pos 1) (power (pos b *ℤ weight ws c) (s - 1))
class_vertex ws (R1 k) c s = fraction (power (neg_ℤ (pos k) *ℤ weight ws c) (s - 1)) (pos 1)
class_vertex ws Contact c s = fraction (power (pos 2 *ℤ weight ws c) (s - 1)) (pos 1)
class_vertex ws (Mark j') c s = fraction (pos 1) (pos 1)
class_vertex ws (Incidence q) c s = fraction (pos 1) (pos 1)
class_vertex ws (Psi j') c s = fraction (pos 1) (pos 1)

-- the product over all edges and all vertices
abbrev pub class_product : List ℤ → Class → DecoratedTree → Fraction
class_product ws class g =
    times (product_of_fractions (at_edges (class_edge ws class) g))
    (product_of_fractions (at_vertices (λ v. class_vertex ws class (colour_of g v) (length (ends_at g v))) g))

-- ---- values

-- L_i^t L_j^(q-1-t)
abbrev pub incidence_term : List ℤ → ℕ → ℕ → ℕ → ℕ → ℤ
incidence_term ws q i j t = power (weight ws i) t *ℤ power (weight ws j) (q - 1 - t)

-- a times its sum over t from 0 to q - 1
abbrev pub incidence_at : List ℤ → ℕ → ℕ → ℕ → ℕ → ℤ
incidence_at ws q i j a = pos a *ℤ integer_sum_below q (incidence_term ws q i j)

-- the value of a class at a tree
abbrev pub class_value : List ℤ → Class → DecoratedTree → Fraction
class_value ws (Mark j) g = fraction (weight ws (colour_of g (slice_index g.marks (j - 1)))) (pos 1)
class_value ws (Hypersurface b) g = class_product ws (Hypersurface b) g
class_value ws (Incidence q) g = fraction (integer_sum (at_edges (incidence_at ws q) g)) (pos 1)
class_value ws (R1 k) g = class_product ws (R1 k) g
class_value ws Contact g = class_product ws Contact g
class_value ws (Psi j) g = fraction (pos 1) (pos 1)

-- the value of a term at a tree: its coefficient times its classes' values, each to its power
abbrev pub term_value : List ℤ → Term → DecoratedTree → Fraction
term_value ws term g =
    times (fraction term.coefficient (pos 1))
    (product_of_fractions (map (λ (p : Power). power_of_fraction (class_value ws p.class g) p.power) term.classes))

-- the power of a psi class at the mark j, 0 for every other class
abbrev pub psi_power : ℕ → Power → ℕ
psi_power j p = psi_of p.class p.power
  where
    psi_of : Class → ℕ → ℕ
    psi_of (Psi i) n = if i == j then n else 0
    psi_of (Mark i) n = 0
    psi_of (Hypersurface b) n = 0
    psi_of (Incidence q) n = 0
    psi_of (R1 k) n = 0
    psi_of Contact n = 0

-- the exponent of the mark j in a term: the sum of the powers of its psi classes there
abbrev pub exponent_of : Term → ℕ → ℕ
exponent_of term j = sum (map (psi_power j) term.classes)

-- the exponents of the marks at a vertex
abbrev pub exponents_at : Term → DecoratedTree → ℕ → List ℕ
exponents_at term g v = map (exponent_of term) (marks_at g v)
