-- Shapes of decorated trees.
use Rattle.std.specs.Prelude.{ℕ, zero, suc, ◌+◌, Bool, ◌&&◌, nat_le, List, [], ◌∷◌}
use Rattle.trees.specs.Decorated.{TreeShape}
use Rattle.trees.specs.TreeNumbers.{trees_with}

-- the shape of a greatest colour, a sum of degrees and a number of marks
abbrev pub shape_of : ℕ → ℕ → ℕ → TreeShape
shape_of r d m = record { rank = r; degree = d; marks = m }

-- the greatest colour is from 1 to 12, the sum of the degrees from 1 to 10, and there are at most 12 marks
abbrev pub within_limits : TreeShape → Bool
within_limits s = nat_le 1 s.rank && nat_le s.rank 12 && nat_le 1 s.degree && nat_le s.degree 10 && nat_le s.marks 12

-- how many trees have n vertices, n + 1 and so on
abbrev pub counts_from : TreeShape → ℕ → ℕ → List ℕ
counts_from s n zero = []
counts_from s n (suc more) = trees_with s n ∷ counts_from s (n + 1) more

-- how many trees have 2 vertices, 3, up to one more than the sum of the degrees
unfoldable pub counts_of : TreeShape → List ℕ
counts_of s = counts_from s 2 s.degree
