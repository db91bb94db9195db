-- The grammar of the texts of trees, and how far a text begins one of its texts.
-- A text of the grammar is the text of edges with their degrees, of colours and of marks. Each number is below 100, and is written
-- as a decimal without leading zeros. So a text of the grammar need not be the text of a tree.
use Rattle.std.specs.Prelude.{◌≡◌, ℕ, ◌≤◌, Bool, true, ◌&&◌, nat_lt, List, length, ◌++◌, take}
use Rattle.std.specs.List.{list_all}
use Rattle.trees.specs.Decorated.{DecoratedTree, TreeShape, is_decorated}
use Rattle.trees.specs.Texts.{tree_text}

-- a number of the grammar, from 0 to 99
abbrev pub is_small : ℕ → Bool
is_small n = nat_lt n 100

-- what the grammar has a text for: 1 to 10 edges, each with a degree, 2 to 11 colours, one for each vertex, and at most 12 marks,
-- all of small numbers; the number of edges need not fit that of vertices, nor their ends be vertices
pub record HasText (g : DecoratedTree) : Type 0 where
  pub least_edges : 1 ≤ length g.edges
  pub most_edges : length g.edges ≤ 10
  pub degrees : length g.degrees ≡ length g.edges
  pub least_colours : 2 ≤ length g.colours
  pub most_colours : length g.colours ≤ 11
  pub most_marks : length g.marks ≤ 12
  pub vertices : g.vertices ≡ length g.colours
  pub small_ends : list_all (λ e. is_small e.0 && is_small e.1) g.edges ≡ true
  pub small_degrees : list_all is_small g.degrees ≡ true
  pub small_colours : list_all is_small g.colours ≡ true
  pub small_marks : list_all is_small g.marks ≡ true

-- a text of the grammar
pub record IsText (text : List ℕ) : Type 0 where
  pub parts : DecoratedTree
  pub has : HasText parts
  pub is : text ≡ tree_text parts

-- a prefix of a text of the grammar
pub record BeginsText (prefix : List ℕ) : Type 0 where
  pub rest : List ℕ
  pub whole : IsText (prefix ++ rest)

-- the length of the longest prefix of a text that is a prefix of a text of the grammar
pub record IsLongestBeginning (text : List ℕ) (place : ℕ) : Type 0 where
  pub within : place ≤ length text
  pub begins : BeginsText (take place text)
  pub longest : (k : ℕ) → k ≤ length text → BeginsText (take k text) → k ≤ place

-- the text of a decorated tree of a shape
pub record IsTextOfTree (s : TreeShape) (text : List ℕ) : Type 0 where
  pub tree : DecoratedTree
  pub decorated : is_decorated s tree ≡ true
  pub is : text ≡ tree_text tree
