-- The text of a decorated tree, as `edges 0-1:1 0-2:1 colours 0 1 1 marks -`.
use Rattle.std.specs.Prelude.{ℕ, List, [], ◌∷◌, ◌++◌, codes, decimal}
use Rattle.trees.specs.Decorated.{DecoratedTree}

-- for each edge a space and `u-v:a`
abbrev pub edges_text : List (ℕ × ℕ) → List ℕ → List ℕ
edges_text [] degrees = []
edges_text (e ∷ es) [] = []
edges_text (e ∷ es) (a ∷ ds) =
    codes " " ++ decimal e.0 ++ codes "-" ++ decimal e.1 ++ codes ":" ++ decimal a ++ edges_text es ds

-- for each number a space and its decimal
abbrev pub numbers_text : List ℕ → List ℕ
numbers_text [] = []
numbers_text (n ∷ ns) = codes " " ++ decimal n ++ numbers_text ns

-- the vertices of the marks, or `-` if there is none
abbrev pub marks_text : List ℕ → List ℕ
marks_text [] = codes " -"
marks_text (v ∷ vs) = numbers_text (v ∷ vs)

-- the text of a tree, one line without its line feed
abbrev pub tree_text : DecoratedTree → List ℕ
tree_text g =
    codes "edges" ++ edges_text g.edges g.degrees ++ codes " colours" ++ numbers_text g.colours
    ++ codes " marks" ++ marks_text g.marks
