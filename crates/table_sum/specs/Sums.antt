-- What trees add to the sums of a problem.
use Rattle.std.specs.Prelude.{ℕ, ◌<◌, ◌≤◌, List, length, slice_index}
use Rattle.trees.specs.Decorated.{DecoratedTree}
use Rattle.trees.specs.TreeNumbers.{tree_of}
use Rattle.arithmetic.specs.Fractions.{Fraction}
use Rattle.classes.specs.declared.class.Term.{Term}
use Rattle.localisation.specs.Agreement.{modulus_at, integral_at}
use Rattle.problem.specs.declared.problem.Problem.{Problem}
use Rattle.problem.specs.Problems.{view}
use Rattle.problem.specs.Rules.{ProblemView}
use Rattle.problem.specs.Sums.{places_of}
use Rattle.range_sum.specs.Totals.{AddsResidue}
use Rattle.factor_table.specs.declared.table.FactorTable.{FactorTable}
use Rattle.factor_table.specs.declared.table.FactorSeat.{FactorSeat}
use Rattle.table_sum.specs.declared.sum.TableSum.{TableSum}
use Rattle.table_sum.specs.Trees.{KnowsEdges}

-- the problem and the table of a sum
abbrev pub problem_of : TableSum → Problem
problem_of s = s.problem.now

abbrev pub table_of : TableSum → FactorTable
table_of s = s.table.now

-- each sum is a residue modulo its modulus
abbrev pub AreSumsBelow : Problem → List ℕ → Type 0
AreSumsBelow p sums = (place : ℕ) → place < places_of (view p) → slice_index sums place < modulus_at p.moduli place

-- each sum grew by the residue of the fraction of its integral modulo its modulus
abbrev pub GrowBy : Problem → (List Term → Fraction) → List ℕ → List ℕ → Type 0
GrowBy p fraction_of old new = (place : ℕ) → place < places_of (view p)
    → AddsResidue (modulus_at p.moduli place) (fraction_of (integral_at p.moduli p.integrals place)) (slice_index old place) (slice_index new place)

-- the seat knows the word of each edge of a tree, for each modulus
abbrev pub KnowsTree : ProblemView → FactorTable → FactorSeat → DecoratedTree → Type 0
KnowsTree p t s g = (index : ℕ) → index < length p.moduli → KnowsEdges s t g index

-- the seat knows the word of each edge of the trees of the numbers from first to stop - 1, for each modulus
abbrev pub KnowsTrees : ProblemView → FactorTable → FactorSeat → ℕ → ℕ → Type 0
KnowsTrees p t s first stop = (k : ℕ) → first ≤ k → k < stop → KnowsTree p t s (tree_of p.shape k)
