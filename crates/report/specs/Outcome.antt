-- The least tree without an inverse.
use Rattle.std.specs.Prelude.{◌≡◌, ℕ, ◌≤◌, true}
use Rattle.trees.specs.Decorated.{DecoratedTree, all_trees}
use Rattle.lists.specs.Members.{IsIn}
use Rattle.trees.specs.TreeNumbers.{tree_of, number_of}
use Rattle.localisation.specs.Agreement.{IsLeastBad, IsFirstBad}
use Rattle.problem.specs.Rules.{ProblemView}
use Rattle.problem.specs.Sums.{count_of, is_bad_of, is_bad_tree_of, is_bad_modulo}

-- The least number whose tree is bad, and the index of the first modulus for which it is. The tree is a decorated tree,
-- and each decorated tree that is bad has this number or a greater one.
pub record LacksInverse (p : ProblemView) (number place : ℕ) : Type 0 where
  pub least : IsLeastBad (is_bad_of p) 0 (count_of p) number
  pub first : IsFirstBad (is_bad_modulo p number) p.moduli place
  pub tree : IsIn (tree_of p.shape number) (all_trees p.shape)
  pub least_of_all : (g : DecoratedTree) → IsIn g (all_trees p.shape) → is_bad_tree_of p g ≡ true
      → number ≤ number_of p.shape g
