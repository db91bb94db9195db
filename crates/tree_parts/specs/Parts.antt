-- What the parts of a tree stand for.
use Rattle.trees.specs.Decorated.{DecoratedTree, TreeShape}

-- a decorated tree, and its shape
pub record ShapedTree : Type 0 where
  pub shape : TreeShape
  pub tree : DecoratedTree
