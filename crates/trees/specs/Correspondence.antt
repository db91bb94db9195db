-- Numbers and decorated trees correspond one to one.
use Rattle.std.specs.Prelude.{◌≡◌, ℕ, ◌<◌, length, IsPermutation}
use Rattle.trees.specs.Decorated.{DecoratedTree, TreeShape, all_trees}
use Rattle.lists.specs.Members.{IsIn}
use Rattle.trees.specs.TreeNumbers.{tree_count, tree_of, number_of, numbered_trees}

-- each number below the count has a decorated tree of this number, each decorated tree has a number below the count that gives it back,
-- and the trees of the numbers, from 0 on, are all decorated trees in another order
pub record NumbersAreTrees (s : TreeShape) : Type 0 where
  pub trees : (k : ℕ) → k < tree_count s → IsIn (tree_of s k) (all_trees s) × (number_of s (tree_of s k) ≡ k)
  pub numbers : (g : DecoratedTree) → IsIn g (all_trees s) → (number_of s g < tree_count s) × (tree_of s (number_of s g) ≡ g)
  pub all : IsPermutation (numbered_trees s 0 (tree_count s)) (all_trees s)
  pub count : length (all_trees s) ≡ tree_count s
