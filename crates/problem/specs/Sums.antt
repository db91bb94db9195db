-- What the trees of a problem sum to.
use Rattle.std.specs.Prelude.{◌≡◌, ℕ, ◌*◌, ◌≤◌, Bool, true, List, length, slice_index}
use Rattle.trees.specs.Decorated.{DecoratedTree, all_trees}
use Rattle.lists.specs.Members.{IsIn}
use Rattle.trees.specs.TreeNumbers.{tree_count, tree_of}
use Rattle.localisation.specs.Contribution.{partial_sum, kontsevich_sum}
use Rattle.localisation.specs.Agreement.{is_bad_for, is_bad_tree, is_bad_number, AreResiduesOf}
use Rattle.problem.specs.Rules.{ProblemView}

-- how many decorated trees a problem has
abbrev pub count_of : ProblemView → ℕ
count_of p = tree_count p.shape

-- whether the tree of a number is bad for a modulus
abbrev pub is_bad_modulo : ProblemView → ℕ → ℕ → Bool
is_bad_modulo p k = is_bad_for p.weights p.integrals (tree_of p.shape k)

-- whether a decorated tree is bad for some modulus of the problem
abbrev pub is_bad_tree_of : ProblemView → DecoratedTree → Bool
is_bad_tree_of p = is_bad_tree p.weights p.integrals p.moduli

-- some decorated tree is bad
abbrev pub HasBadTree : ProblemView → Type 0
HasBadTree p = (g : DecoratedTree) × IsIn g (all_trees p.shape) × (is_bad_tree_of p g ≡ true)

-- whether the tree of a number is bad for some modulus of the problem
abbrev pub is_bad_of : ProblemView → ℕ → Bool
is_bad_of p = is_bad_number p.weights p.integrals p.moduli p.shape

-- how many sums there are: one for each integral and modulus
abbrev pub places_of : ProblemView → ℕ
places_of p = length p.integrals * length p.moduli

-- the residues of the partial sums over the numbers from first to end - 1
abbrev pub ArePartialSums : ProblemView → ℕ → ℕ → List ℕ → Type 0
ArePartialSums p first end sums = AreResiduesOf p.moduli p.integrals (partial_sum p.weights p.shape first end) sums

-- the residues of Kontsevich's sums over all decorated trees
abbrev pub AreKontsevichSums : ProblemView → List ℕ → Type 0
AreKontsevichSums p sums = AreResiduesOf p.moduli p.integrals (kontsevich_sum p.weights p.shape) sums

-- places past the sums hold 0
abbrev pub IsEmptyFrom : ℕ → List ℕ → Type 0
IsEmptyFrom count sums = (place : ℕ) → count ≤ place → slice_index sums place ≡ 0
