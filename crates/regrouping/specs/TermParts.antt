-- The contribution of a tree, as a sum over its terms of products of the tree's parts.
use Rattle.std.specs.Prelude.{◌≡◌, ℕ, List, [], ◌∷◌, map, ℤ, pos}
use Rattle.arithmetic.specs.Numbers.{factorial}
use Rattle.arithmetic.specs.Fractions.{Fraction, fraction, times, sum_of_fractions}
use Rattle.trees.specs.Decorated.{DecoratedTree}
use Rattle.classes.specs.declared.class.Term.{Term}
use Rattle.localisation.specs.ClassValue.{term_value, exponent_of}
use Rattle.localisation.specs.Contribution.{edge_factors}
use Rattle.regrouping.specs.TreeParts.{tree_parts}

-- no psi class in a term
abbrev pub IsPsiFree : Term → Type 0
IsPsiFree term = (j : ℕ) → exponent_of term j ≡ 0

abbrev pub AllPsiFree : List Term → Type 0
AllPsiFree [] = Unit {0}
AllPsiFree (t ∷ ts) = IsPsiFree t × AllPsiFree ts

-- 1 / n! and the fractions of the edges
abbrev pub start : List ℤ → DecoratedTree → Fraction
start ws g = times (fraction (pos 1) (pos (factorial g.vertices))) (edge_factors ws g)

-- what one term adds
abbrev pub term_parts : List ℤ → DecoratedTree → List (ℕ × ℕ) → Term → Fraction
term_parts ws g rest term = times (start ws g) (times (tree_parts ws g rest) (term_value ws term g))

abbrev pub contribution_parts : List ℤ → List Term → DecoratedTree → List (ℕ × ℕ) → Fraction
contribution_parts ws terms g rest = sum_of_fractions (map (term_parts ws g rest) terms)
