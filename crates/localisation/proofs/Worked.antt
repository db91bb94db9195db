-- Worked numbers: the definitions computed, and compared with values from outside.
use Rattle.std.proofs.Common.{◌≡◌, ℕ, List, [], ◌∷◌, map, refl, true, false, ℤ, pos, negsuc, ◌*ℤ◌, lit<}
use Rattle.std.proofs.lemmas.Nat.Gcd.{dvd_of_mod-eq-zero}
use Rattle.arithmetic.specs.Numbers.{gcd, greatest_divisor}
use Rattle.arithmetic.proofs.Euclid.{last_remainder, gcd_by_euclid}
use Rattle.arithmetic.specs.Fractions.{Fraction, IsResidue}
use Rattle.trees.specs.Decorated.{TreeShape, is_decorated, all_trees}
use Rattle.trees.specs.Words.{decoded}
use Rattle.trees.specs.TreeNumbers.{tree_of}
use Rattle.classes.specs.declared.class.Class.{Class}
use Rattle.classes.specs.declared.class.Class.TheVariants.{Mark, Hypersurface, Incidence, R1, Contact, Psi}
use Rattle.classes.specs.declared.class.Power.{Power}
use Rattle.classes.specs.declared.class.Term.{Term}
use Rattle.localisation.specs.Weights.{tangent_product}
use Rattle.localisation.specs.EdgeFraction.{edge_fraction, edge_top, edge_bottom, colour_product, other_colours_product}
use Rattle.localisation.specs.VertexFraction.{End, plain_vertex, psi_vertex, vertex_fraction, multinomial}
use Rattle.localisation.specs.ClassValue.{class_edge, sections_product, inner_product, negated_inner_product}
use Rattle.localisation.specs.Contribution.{contribution, kontsevich_sum, partial_sum}
use Rattle.localisation.specs.Agreement.{is_bad_for, is_bad_number}

-- ---- names for what the examples share

line_weights : List ℤ
line_weights = pos 1 ∷ pos 3 ∷ []

plane_weights : List ℤ
plane_weights = pos 1 ∷ pos 10 ∷ pos 100 ∷ []

space_weights : List ℤ
space_weights = pos 1 ∷ pos 10 ∷ pos 100 ∷ pos 1000 ∷ []

end_of : ℕ → ℕ → End
end_of c a = record { colour = c; degree = a }

to_the : Class → ℕ → Power
to_the c n = record { class = c; power = n }

one_term : List Power → List Term
one_term ps = record { coefficient = pos 1; classes = ps } ∷ []

shape_of : ℕ → ℕ → ℕ → TreeShape
shape_of r d m = record { rank = r; degree = d; marks = m }

-- p over q, by the product crosswise
IsFraction : Fraction → ℤ → ℤ → Type 0
IsFraction f p q = f.top *ℤ q ≡ p *ℤ f.bottom

-- ---- one edge, one vertex, one class; the weights are 1 and 3, the modulus 101

edge_of_degree_two : IsResidue 101 (edge_fraction line_weights 0 1 2) 38
unfolding line_weights edge_top edge_bottom colour_product other_colours_product last_remainder
edge_of_degree_two = record { below = lit< tt; unit = gcd_by_euclid _ _ 1 refl; divides = dvd_of_mod-eq-zero 101 refl }

two_ends : IsResidue 101 (vertex_fraction line_weights 0 (end_of 1 1 ∷ end_of 1 1 ∷ []) []) 51
unfolding line_weights end_of plain_vertex tangent_product last_remainder
two_ends = record { below = lit< tt; unit = gcd_by_euclid _ _ 1 refl; divides = dvd_of_mod-eq-zero 101 refl }

two_ends_and_a_mark : IsResidue 101 (vertex_fraction line_weights 0 (end_of 1 1 ∷ end_of 1 1 ∷ []) (0 ∷ [])) 50
unfolding line_weights end_of plain_vertex tangent_product last_remainder
two_ends_and_a_mark = record { below = lit< tt; unit = gcd_by_euclid _ _ 1 refl; divides = dvd_of_mod-eq-zero 101 refl }

image_of_a_line_bundle : IsResidue 101 (class_edge line_weights (R1 1) 0 1 2) 99
unfolding line_weights negated_inner_product last_remainder
image_of_a_line_bundle = record { below = lit< tt; unit = gcd_by_euclid _ _ 1 refl; divides = dvd_of_mod-eq-zero 101 refl }

psi_at_the_only_mark : IsResidue 101 (vertex_fraction line_weights 0 (end_of 1 1 ∷ []) (1 ∷ [])) 2
unfolding line_weights end_of psi_vertex last_remainder
psi_at_the_only_mark = record { below = lit< tt; unit = gcd_by_euclid _ _ 1 refl; divides = dvd_of_mod-eq-zero 101 refl }

psi_above_the_dimension : IsResidue 101 (vertex_fraction line_weights 0 (end_of 1 1 ∷ []) (1 ∷ 0 ∷ [])) 0
unfolding line_weights end_of psi_vertex last_remainder
psi_above_the_dimension = record { below = lit< tt; unit = gcd_by_euclid _ _ 1 refl; divides = dvd_of_mod-eq-zero 101 refl }

psi_among_three_marks : IsResidue 101 (vertex_fraction line_weights 0 (end_of 1 1 ∷ []) (1 ∷ 0 ∷ 0 ∷ [])) 50
unfolding line_weights end_of psi_vertex tangent_product last_remainder
psi_among_three_marks = record { below = lit< tt; unit = gcd_by_euclid _ _ 1 refl; divides = dvd_of_mod-eq-zero 101 refl }

-- the ways to place exponents are a whole number: 6! over 1! 2! 3!
ways : multinomial 6 (1 ∷ 2 ∷ []) ≡ 60
ways = refl

-- ---- conics in the projective line: eight trees, with the sum 1/8

conic_terms : List Term
conic_terms = one_term (to_the (R1 1) 2 ∷ [])

conic_tree : ℕ → Fraction
conic_tree k = contribution line_weights conic_terms (tree_of (shape_of 1 2 0) k)

first_conic : IsFraction (conic_tree 0) (negsuc 0) (pos 4)
unfolding IsFraction conic_tree conic_terms one_term to_the shape_of line_weights tree_of decoded contribution edge_top edge_bottom colour_product other_colours_product plain_vertex tangent_product negated_inner_product
first_conic = refl

second_conic : IsFraction (conic_tree 1) (negsuc 0) (pos 4)
unfolding IsFraction conic_tree conic_terms one_term to_the shape_of line_weights tree_of decoded contribution edge_top edge_bottom colour_product other_colours_product plain_vertex tangent_product negated_inner_product
second_conic = refl

-- the tree of the number 2 has colour 0 in the middle
middle_of_colour_zero : IsFraction (conic_tree 2) (pos 1) (pos 48)
unfolding IsFraction conic_tree conic_terms one_term to_the shape_of line_weights tree_of decoded contribution edge_top edge_bottom colour_product other_colours_product plain_vertex tangent_product negated_inner_product
middle_of_colour_zero = refl

-- and that of the number 3 has colour 1 in the middle
middle_of_colour_one : IsFraction (conic_tree 3) (pos 9) (pos 48)
unfolding IsFraction conic_tree conic_terms one_term to_the shape_of line_weights tree_of decoded contribution edge_top edge_bottom colour_product other_colours_product plain_vertex tangent_product negated_inner_product
middle_of_colour_one = refl

three_conics : IsFraction (partial_sum line_weights (shape_of 1 2 0) 0 3 conic_terms) (negsuc 22) (pos 48)
unfolding IsFraction partial_sum conic_terms one_term to_the shape_of line_weights tree_of decoded contribution edge_top edge_bottom colour_product other_colours_product plain_vertex tangent_product negated_inner_product
three_conics = refl

all_conics_by_number : IsFraction (partial_sum line_weights (shape_of 1 2 0) 0 8 conic_terms) (pos 1) (pos 8)
unfolding IsFraction partial_sum conic_terms one_term to_the shape_of line_weights tree_of decoded contribution edge_top edge_bottom colour_product other_colours_product plain_vertex tangent_product negated_inner_product
all_conics_by_number = refl

all_conics : IsFraction (kontsevich_sum line_weights (shape_of 1 2 0) conic_terms) (pos 1) (pos 8)
unfolding IsFraction kontsevich_sum all_trees is_decorated conic_terms one_term to_the shape_of line_weights contribution edge_top edge_bottom colour_product other_colours_product plain_vertex tangent_product negated_inner_product
all_conics = refl

-- with three vertices the bottom has the factor 3!, so the number 2 is bad for the modulus 9
bad_for_nine : is_bad_number line_weights (conic_terms ∷ []) (9 ∷ []) (shape_of 1 2 0) 2 ≡ true
unfolding is_bad_number is_bad_for conic_terms one_term to_the shape_of line_weights tree_of decoded contribution edge_top edge_bottom colour_product other_colours_product plain_vertex tangent_product negated_inner_product gcd greatest_divisor
bad_for_nine = refl

-- and no smaller number is
good_for_nine : map (is_bad_number line_weights (conic_terms ∷ []) (9 ∷ []) (shape_of 1 2 0)) (0 ∷ 1 ∷ []) ≡ false ∷ false ∷ []
unfolding is_bad_number is_bad_for conic_terms one_term to_the shape_of line_weights tree_of decoded contribution edge_top edge_bottom colour_product other_colours_product plain_vertex tangent_product negated_inner_product gcd greatest_divisor
good_for_nine = refl

-- ---- sums over all decorated trees

-- 27 lines on a cubic surface
lines_on_a_cubic_surface : IsFraction (kontsevich_sum space_weights (shape_of 3 1 0) (one_term (to_the (Hypersurface 3) 1 ∷ []))) (pos 27) (pos 1)
unfolding IsFraction kontsevich_sum all_trees is_decorated one_term to_the shape_of space_weights contribution edge_top edge_bottom colour_product other_colours_product plain_vertex tangent_product sections_product
lines_on_a_cubic_surface = refl

-- 2 lines meet four lines in space
lines_that_meet_four_lines : IsFraction (kontsevich_sum space_weights (shape_of 3 1 0) (one_term (to_the (Incidence 2) 4 ∷ []))) (pos 2) (pos 1)
unfolding IsFraction kontsevich_sum all_trees is_decorated one_term to_the shape_of space_weights contribution edge_top edge_bottom colour_product other_colours_product plain_vertex tangent_product
lines_that_meet_four_lines = refl

-- 2 contact lines meet three lines in space
contact_lines : IsFraction (kontsevich_sum space_weights (shape_of 3 1 0) (one_term (to_the Contact 1 ∷ to_the (Incidence 2) 3 ∷ []))) (pos 2) (pos 1)
unfolding IsFraction kontsevich_sum all_trees is_decorated one_term to_the shape_of space_weights contribution edge_top edge_bottom colour_product other_colours_product plain_vertex tangent_product inner_product
contact_lines = refl

-- conics in the local projective plane: -45/8
local_conics : IsFraction (kontsevich_sum plane_weights (shape_of 2 2 0) (one_term (to_the (R1 3) 1 ∷ []))) (negsuc 44) (pos 8)
unfolding IsFraction kontsevich_sum all_trees is_decorated one_term to_the shape_of plane_weights contribution edge_top edge_bottom colour_product other_colours_product plain_vertex tangent_product negated_inner_product
local_conics = refl

-- a psi class on lines in the projective line, with one mark: -2
psi_on_lines : IsFraction (kontsevich_sum line_weights (shape_of 1 1 1) (one_term (to_the (Psi 1) 1 ∷ []))) (negsuc 1) (pos 1)
unfolding IsFraction kontsevich_sum all_trees is_decorated one_term to_the shape_of line_weights contribution edge_top edge_bottom colour_product other_colours_product plain_vertex psi_vertex tangent_product
psi_on_lines = refl

-- the same with a point at another mark: -1
psi_and_a_point : IsFraction (kontsevich_sum line_weights (shape_of 1 1 2) (one_term (to_the (Mark 1) 1 ∷ to_the (Psi 2) 1 ∷ []))) (negsuc 0) (pos 1)
unfolding IsFraction kontsevich_sum all_trees is_decorated one_term to_the shape_of line_weights contribution edge_top edge_bottom colour_product other_colours_product plain_vertex psi_vertex tangent_product
psi_and_a_point = refl

-- the third power of a psi class on conics: -3/4
psi_on_conics : IsFraction (kontsevich_sum line_weights (shape_of 1 2 1) (one_term (to_the (Psi 1) 3 ∷ []))) (negsuc 2) (pos 4)
unfolding IsFraction kontsevich_sum all_trees is_decorated one_term to_the shape_of line_weights contribution edge_top edge_bottom colour_product other_colours_product plain_vertex psi_vertex tangent_product
psi_on_conics = refl

-- two integrals over the same trees, with the coefficients 1 and -3
two_integrals : List Fraction
two_integrals = map (kontsevich_sum line_weights (shape_of 1 1 0))
    ((record { coefficient = pos 1; classes = [] } ∷ []) ∷ (record { coefficient = negsuc 2; classes = [] } ∷ []) ∷ [])

-- p over q, one by one
AreFractions : List Fraction → List ℤ → List ℤ → Type 0
AreFractions [] [] [] = Unit {0}
AreFractions (f ∷ fs) (p ∷ ps) (q ∷ qs) = IsFraction f p q × AreFractions fs ps qs
AreFractions fs ps qs = ⊥

two_integrals_at_once : AreFractions two_integrals (pos 1 ∷ negsuc 2 ∷ []) (pos 1 ∷ pos 1 ∷ [])
unfolding AreFractions IsFraction two_integrals kontsevich_sum all_trees is_decorated shape_of line_weights contribution edge_top edge_bottom colour_product other_colours_product plain_vertex tangent_product
two_integrals_at_once = (refl, (refl, tt))
