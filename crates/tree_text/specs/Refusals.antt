-- When a text is refused, and the text of a refusal.
use Rattle.std.specs.Prelude.{ℕ, List, ◌++◌, codes, decimal}
use Rattle.trees.specs.Decorated.{TreeShape}
use Rattle.tree_text.specs.Grammar.{IsText, IsLongestBeginning, IsTextOfTree}
use Rattle.tree_text.specs.declared.error.TreeTextError.{TreeTextError}
use Rattle.tree_text.specs.declared.error.TreeTextError.TheVariants.{Syntax, NotOfShape}

-- the text is not of the grammar, with the length of its longest prefix that a text of the grammar begins with; or it is of
-- the grammar, and the text of no decorated tree of the shape
abbrev pub IsRefusal : TreeShape → List ℕ → TreeTextError → Type 0
IsRefusal s text (Syntax place) = (¬ IsText text) × IsLongestBeginning text place
IsRefusal s text NotOfShape = IsText text × (¬ IsTextOfTree s text)

-- the number of a refusal, its name and its details
abbrev pub refusal_of : TreeTextError → List ℕ
refusal_of (Syntax place) = codes "1 Syntax " ++ decimal place
refusal_of NotOfShape = codes "2 NotOfShape"
