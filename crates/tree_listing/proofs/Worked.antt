-- Worked lists: the double covers of a line by the trees of the numbers 1 and 2, and a tree without a residue.
use Rattle.std.proofs.Common.{◌≡◌, ℕ, List, [], ◌∷◌, ◌++◌, codes, pos, refl}
use Rattle.std.specs.Fmt.{digits}
use Rattle.trees.specs.Decorated.{TreeShape}
use Rattle.trees.specs.Words.{decoded}
use Rattle.trees.specs.TreeNumbers.{tree_of}
use Rattle.classes.specs.declared.class.Class.TheVariants.{R1}
use Rattle.arithmetic.specs.Numbers.{gcd, greatest_divisor}
use Rattle.localisation.specs.Weights.{tangent_product}
use Rattle.localisation.specs.EdgeFraction.{edge_top, edge_bottom, colour_product, other_colours_product}
use Rattle.localisation.specs.VertexFraction.{plain_vertex}
use Rattle.localisation.specs.ClassValue.{negated_inner_product}
use Rattle.localisation.specs.Contribution.{contribution}
use Rattle.problem.specs.Rules.{ProblemView}
use Rattle.tree_listing.specs.Residues.{residue_of, quotient_below}
use Rattle.tree_listing.specs.Texts.{trees_text}

-- the square of the class of the first direct image of O(-1), under the weights 1 and 3
double_covers : List ℕ → ProblemView
double_covers moduli = record {
  shape = record { rank = 1; degree = 2; marks = 0 };
  weights = pos 1 ∷ pos 3 ∷ [];
  moduli = moduli;
  top_bound = 100;
  bottom_bound = 100;
  integrals = (record { coefficient = pos 1; classes = record { class = R1 1; power = 2 } ∷ [] } ∷ []) ∷ [];
}

two_trees : trees_text (double_covers (101 ∷ 1001 ∷ [])) 1 3
    ≡ codes "tree 1\nedges 0-1:2 colours 1 0 marks -\nresidue 101 25\nresidue 1001 250\n"
    ++ codes "tree 2\nedges 0-1:1 0-2:1 colours 0 1 1 marks -\nresidue 101 40\nresidue 1001 146\n"
unfolding trees_text double_covers residue_of quotient_below tree_of decoded contribution edge_top edge_bottom colour_product other_colours_product plain_vertex tangent_product negated_inner_product gcd greatest_divisor digits
two_trees = refl

-- 3 divides 3!, so a tree of three vertices has no residue modulo 9
no_residue : trees_text (double_covers (9 ∷ [])) 2 3 ≡ codes "tree 2\nedges 0-1:1 0-2:1 colours 0 1 1 marks -\nresidue 9 none\n"
unfolding trees_text double_covers residue_of quotient_below tree_of decoded contribution edge_top edge_bottom colour_product other_colours_product plain_vertex tangent_product negated_inner_product gcd greatest_divisor digits
no_residue = refl
