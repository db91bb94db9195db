-- The trees that have parts.
use Rattle.std.specs.Prelude.{◌≡◌, ℕ, ◌≤◌, IsTrue}
use Rattle.trees.specs.Decorated.{TreeShape}
use Rattle.decorated_tree.specs.declared.tree.Tree.{Tree}
use Rattle.decorated_tree.specs.Trees.{is_tree_of}

-- a decorated tree of some shape with this rank, a sum of degrees of at most 10 and at most 12 marks
abbrev pub IsTreeOfRank : ℕ → Tree → Type 0
IsTreeOfRank rank t = (s : TreeShape) × (s.rank ≡ rank) × (s.degree ≤ 10) × (s.marks ≤ 12) × IsTrue (is_tree_of s t)
