-- The text of a list of trees: of each one its number, its text, and the residues of its contribution.
use Rattle.std.specs.Prelude.{ℕ, ◌-◌, ℤ, List, [], ◌++◌, length, get_or, codes, decimal, Option, Some, None}
use Rattle.std.specs.List.{flat_map}
use Rattle.lists.specs.Ranges.{counted_from}
use Rattle.trees.specs.Decorated.{DecoratedTree}
use Rattle.trees.specs.Texts.{tree_text}
use Rattle.trees.specs.TreeNumbers.{tree_of}
use Rattle.classes.specs.declared.class.Term.{Term}
use Rattle.localisation.specs.Contribution.{contribution}
use Rattle.problem.specs.Rules.{ProblemView}
use Rattle.report.specs.Texts.{labelled_line, integral_line}
use Rattle.tree_listing.specs.Residues.{residue_of}

-- a residue, or `none`
abbrev pub value_text : Option ℕ → List ℕ
value_text (Some x) = decimal x
value_text None = codes "none"

-- `residue <modulus> <value>`
abbrev pub value_line : ℕ → Option ℕ → List ℕ
value_line m value = codes "residue " ++ decimal m ++ codes " " ++ value_text value ++ codes "\n"

-- the contribution of a tree to an integral, modulo m
abbrev pub contribution_line : List ℤ → List Term → DecoratedTree → ℕ → List ℕ
contribution_line ws terms g m = value_line m (residue_of m (contribution ws terms g))

-- the lines of the integral i: a line for each modulus, behind `integral <i>` if there are two or more integrals
abbrev pub contribution_lines : ProblemView → DecoratedTree → ℕ → List ℕ
contribution_lines p g i =
    integral_line (length p.integrals) i ++ flat_map (contribution_line p.weights (get_or p.integrals i []) g) p.moduli

-- the lines of the tree of the number k: `tree <k>`, the text of the tree, and the lines of each integral
abbrev pub tree_lines : ProblemView → ℕ → List ℕ
tree_lines p k =
    labelled_line (codes "tree") k ++ tree_text (tree_of p.shape k) ++ codes "\n"
    ++ flat_map (contribution_lines p (tree_of p.shape k)) (counted_from 0 (length p.integrals))

-- the lines of the trees of the numbers from low to high - 1
unfoldable pub trees_text : ProblemView → ℕ → ℕ → List ℕ
trees_text p low high = flat_map (tree_lines p) (counted_from low (high - low))
