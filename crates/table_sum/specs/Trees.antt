-- Trees whose factors are in a table.
use Rattle.std.specs.Prelude.{ℕ, ◌<◌, ◌≤◌, List, length, All, ℤ}
use Rattle.trees.specs.Decorated.{DecoratedTree, TreeShape}
use Rattle.arithmetic.specs.Fractions.{Fraction, times}
use Rattle.localisation.specs.VertexFraction.{plain_vertex}
use Rattle.localisation.specs.ClassValue.{at_edges, colour_of, ends_at, marks_at}
use Rattle.localisation.specs.Contribution.{edge_factors}
use Rattle.factor_table.specs.declared.key.Key.{Key}
use Rattle.factor_table.specs.declared.key.Key.TheVariants.{Edge}
use Rattle.factor_table.specs.declared.parameters.Parameters.{Parameters}
use Rattle.factor_table.specs.declared.table.FactorTable.{FactorTable}
use Rattle.factor_table.specs.declared.table.FactorSeat.{FactorSeat}
use Rattle.factor_table.specs.Seats.{Knows}
use Rattle.table_sum.specs.Numberings.{one_numbering}

-- the colours and the degrees of the trees of a shape are those of the parameters
pub record IsShapeIn (p : Parameters) (s : TreeShape) : Type 0 where
  pub colours : s.rank < length p.setup
  pub degrees : s.degree ≤ p.degree

-- the keys of the edges of a tree: the colours of the two ends of each, and its degree
abbrev pub edge_keys : DecoratedTree → List Key
edge_keys g = at_edges (λ i j a. Edge i j a) g

-- the seat knows the word of each edge of a tree for the modulus at an index
abbrev pub KnowsEdges : FactorSeat → FactorTable → DecoratedTree → ℕ → Type 0
KnowsEdges s t g modulus = All (λ key. Knows s t key modulus) (edge_keys g)

-- what a tree has as a factor in each integral: the fractions of its edges, over n! for n vertices
abbrev pub tree_start : List ℤ → DecoratedTree → Fraction
tree_start ws g = times (one_numbering g.vertices) (edge_factors ws g)

-- the fraction of the vertex v without exponents
abbrev pub plain_at : List ℤ → DecoratedTree → ℕ → Fraction
plain_at ws g v = plain_vertex ws (colour_of g v) (ends_at g v) (length (marks_at g v))
