-- The residues of the sums and products over the ends at a vertex.
use Rattle.std.specs.Prelude.{ℕ, List, ℤ}
use Rattle.arithmetic.specs.Numbers.{Leaves}
use Rattle.localisation.specs.VertexFraction.{End, product_of_degrees, product_of_differences, crossed_sum}
use Rattle.vertex_factor.specs.declared.sums.EndSums.{EndSums}

-- these are the residues of the three for a list of ends
pub record AreSums (m : ℕ) (ws : List ℤ) (c : ℕ) (es : List End) (sums : EndSums) : Type 0 where
  pub degrees : Leaves m (product_of_degrees es) sums.degrees
  pub differences : Leaves m (product_of_differences ws c es) sums.differences
  pub crossed : Leaves m (crossed_sum ws c es) sums.crossed
