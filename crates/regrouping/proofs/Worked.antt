-- Worked numbers: the parts of a conic tree computed, and compared with its known contribution, 1/48.
use Rattle.std.proofs.Common.{List, [], ◌∷◌, drop, refl, ℤ, pos, lit<}
use Rattle.std.proofs.lemmas.Nat.Gcd.{dvd_of_mod-eq-zero}
use Rattle.arithmetic.specs.Numbers.{gcd, greatest_divisor}
use Rattle.arithmetic.specs.Fractions.{IsResidue}
use Rattle.trees.specs.Decorated.{DecoratedTree}
use Rattle.trees.specs.Words.{decoded}
use Rattle.trees.specs.Walks.{walk_in}
use Rattle.trees.specs.TreeNumbers.{tree_of}
use Rattle.classes.specs.declared.class.Class.TheVariants.{R1}
use Rattle.classes.specs.declared.class.Term.{Term}
use Rattle.localisation.specs.Weights.{tangent_product}
use Rattle.localisation.specs.EdgeFraction.{edge_top, edge_bottom, colour_product, other_colours_product}
use Rattle.localisation.specs.VertexFraction.{plain_vertex}
use Rattle.localisation.specs.ClassValue.{negated_inner_product}
use Rattle.regrouping.specs.TermParts.{contribution_parts}
use Rattle.regrouping.specs.Dressed.{dressed_term, numbered_sum}

line_weights : List ℤ
line_weights = pos 1 ∷ pos 3 ∷ []

conic_terms : List Term
conic_terms = record { coefficient = pos 1; classes = record { class = R1 1; power = 2 } ∷ [] } ∷ []

middle_of_colour_zero : DecoratedTree
middle_of_colour_zero = tree_of (record { rank = 1; degree = 2; marks = 0 }) 2

middle_parts : IsResidue 101 (contribution_parts line_weights conic_terms middle_of_colour_zero (drop 1 (walk_in middle_of_colour_zero.vertices middle_of_colour_zero.edges (0 ∷ [])))) 40
unfolding line_weights conic_terms middle_of_colour_zero tree_of decoded edge_top edge_bottom colour_product other_colours_product tangent_product negated_inner_product gcd greatest_divisor
middle_parts = record { below = lit< tt; unit = refl; divides = dvd_of_mod-eq-zero 101 refl }

middle_dressed : IsResidue 101 (numbered_sum middle_of_colour_zero (dressed_term line_weights middle_of_colour_zero) conic_terms) 40
unfolding line_weights conic_terms middle_of_colour_zero tree_of decoded edge_top edge_bottom colour_product other_colours_product tangent_product plain_vertex negated_inner_product gcd greatest_divisor
middle_dressed = record { below = lit< tt; unit = refl; divides = dvd_of_mod-eq-zero 101 refl }
