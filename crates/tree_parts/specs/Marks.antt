-- Marks at a vertex.
use Rattle.std.specs.Prelude.{ℕ, ◌-◌, Bool, ◌==◌, List, slice_index}

-- the mark j, counted from 1, is at the vertex v, if these are the vertices of the marks
abbrev pub is_at : List ℕ → ℕ → ℕ → Bool
is_at vertices v j = slice_index vertices (j - 1) == v
