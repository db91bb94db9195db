-- The weights of the torus action, one for each colour.
use Rattle.std.specs.Prelude.{ℕ, ◌==◌, if◌then◌else◌, List, length, slice_index_or, ℤ, pos, ◌+ℤ◌, ◌-ℤ◌, ◌*ℤ◌}
use Rattle.arithmetic.specs.Numbers.{product_below}

-- the weight of a colour
abbrev pub weight : List ℤ → ℕ → ℤ
weight ws c = slice_index_or ws c (pos 0)

-- t times the weight of i and s times that of j
abbrev pub between_weights : List ℤ → ℕ → ℕ → ℕ → ℕ → ℤ
between_weights ws i j t s = pos t *ℤ weight ws i +ℤ pos s *ℤ weight ws j

-- the difference of the weight of c to that of j, left out if they are one colour
abbrev pub tangent_term : List ℤ → ℕ → ℕ → ℤ
tangent_term ws c j = if j == c then pos 1 else weight ws c -ℤ weight ws j

-- the product of the differences to all other colours, the weight of the tangent space at the fixed point c
unfoldable pub tangent_product : List ℤ → ℕ → ℤ
tangent_product ws c = product_below (length ws) (tangent_term ws c)
