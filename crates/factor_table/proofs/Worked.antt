-- Worked numbers: places, and words of keys.
use Rattle.std.proofs.Common.{◌≡◌, ℕ, inl, inr, [], ◌∷◌, refl, pos, lit<, arith}
use Rattle.std.proofs.lemmas.Nat.Gcd.{dvd_of_mod-eq-zero}
use Rattle.arithmetic.proofs.Euclid.{last_remainder, gcd_by_euclid}
use Rattle.classes.specs.declared.class.Class.TheVariants.{R1}
use Rattle.localisation.specs.Weights.{tangent_product}
use Rattle.localisation.specs.EdgeFraction.{edge_top, edge_bottom, colour_product, other_colours_product}
use Rattle.localisation.specs.VertexFraction.{plain_vertex}
use Rattle.localisation.specs.ClassValue.{negated_inner_product}
use Rattle.factor_table.specs.declared.key.Key.TheVariants.{Edge, Flag, Tangent, Pair, ClassEdge, ClassVertex, Tip}
use Rattle.factor_table.specs.declared.layout.Sizes.{Sizes}
use Rattle.factor_table.specs.declared.parameters.Parameters.{Parameters}
use Rattle.factor_table.specs.KeyPlaces.{words_of_modulus, words_of, word_place}
use Rattle.factor_table.specs.Factors.{parameters, sizes_of, fraction_of, IsWordOf}

-- ---- the greatest table

greatest : Sizes
greatest = record { colours = 13; degree = 10; moduli = 8; classes = 512 }

greatest_of_modulus : words_of_modulus greatest ≡ 1156623
unfolding greatest
greatest_of_modulus = refl

greatest_words : words_of greatest ≡ 9253005
unfolding greatest words_of
greatest_words = refl

-- ---- the weights 1 and 3, the degree 2, the modulus 101 and the class r1(1)

line : Parameters
line = parameters (pos 1 ∷ pos 3 ∷ []) 2 (101 ∷ []) (R1 1 ∷ [])

-- three words for the weights and the modulus, three times 8 for edges, flags and tips, 2 for tangents, 32 for pairs,
-- and 8 and 4 for the class
words_of_line : words_of (sizes_of line) ≡ 73
unfolding line words_of
words_of_line = refl

-- the edge from 0 to 1 of degree 2 is the fourth
place_of_edge : word_place (sizes_of line) (Edge 0 1 2) 0 ≡ 6
unfolding line word_place
place_of_edge = refl

place_of_last : word_place (sizes_of line) (ClassVertex 0 1 2) 0 ≡ 72
unfolding line word_place
place_of_last = refl

word_of_edge : IsWordOf 101 (fraction_of line (Edge 0 1 2)) 39
unfolding line edge_top edge_bottom colour_product other_colours_product last_remainder
word_of_edge =
    inl (38, record { below = lit< tt; unit = gcd_by_euclid _ _ 1 refl; divides = dvd_of_mod-eq-zero 101 refl }, refl)

word_of_pair : IsWordOf 101 (fraction_of line (Pair 0 1 1 1 1)) 52
unfolding line plain_vertex tangent_product last_remainder
word_of_pair =
    inl (51, record { below = lit< tt; unit = gcd_by_euclid _ _ 1 refl; divides = dvd_of_mod-eq-zero 101 refl }, refl)

word_of_class_edge : IsWordOf 101 (fraction_of line (ClassEdge 0 0 1 2)) 100
unfolding line negated_inner_product last_remainder
word_of_class_edge =
    inl (99, record { below = lit< tt; unit = gcd_by_euclid _ _ 1 refl; divides = dvd_of_mod-eq-zero 101 refl }, refl)

-- the tangent at 0 is 1 - 3, and a tip there is (3 - 1) over its degree
word_of_tangent : IsWordOf 101 (fraction_of line (Tangent 0)) 100
unfolding line tangent_product last_remainder
word_of_tangent =
    inl (99, record { below = lit< tt; unit = gcd_by_euclid _ _ 1 refl; divides = dvd_of_mod-eq-zero 101 refl }, refl)

word_of_tip : IsWordOf 101 (fraction_of line (Tip 0 1 2)) 2
unfolding line last_remainder
word_of_tip =
    inl (1, record { below = lit< tt; unit = gcd_by_euclid _ _ 1 refl; divides = dvd_of_mod-eq-zero 101 refl }, refl)

-- ---- the weights 1 and 4: their difference is no unit modulo 9

thirds : Parameters
thirds = parameters (pos 1 ∷ pos 4 ∷ []) 3 (9 ∷ []) []

not_one : (g : ℕ) → g ≡ 3 → g ≡ 1 → ⊥
not_one g three one = omega arith

word_of_flag : IsWordOf 9 (fraction_of thirds (Flag 0 1 1)) 18446744073709551615
unfolding thirds last_remainder
word_of_flag = inr ((λ h. not_one _ (gcd_by_euclid _ _ 3 refl) h), refl)

-- the degree 3 is no unit either
word_of_third_tip : IsWordOf 9 (fraction_of thirds (Tip 0 1 3)) 18446744073709551615
unfolding thirds last_remainder
word_of_third_tip = inr ((λ h. not_one _ (gcd_by_euclid _ _ 3 refl) h), refl)
