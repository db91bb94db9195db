-- What a tree and a term must be for a contribution, and the parts of the contribution that loops walk through.
use Rattle.std.specs.Prelude.{ℕ, ◌≤◌, List, length, map, sum_by, All, ℤ}
use Rattle.arithmetic.specs.Fractions.{Fraction, sum_of_fractions}
use Rattle.trees.specs.Decorated.{DecoratedTree}
use Rattle.classes.specs.declared.class.Power.{Power}
use Rattle.classes.specs.declared.class.Term.{Term}
use Rattle.localisation.specs.VertexFraction.{vertex_fraction}
use Rattle.localisation.specs.ClassValue.{colour_of, ends_at, exponents_at, exponent_of}
use Rattle.localisation.specs.Contribution.{term_factor}
use Rattle.classes.specs.Classes.{IsPowerFor}

-- each class of a term is within its limits for m marks, and the exponent of each mark is at most 151
pub record IsTermFor (m : ℕ) (term : Term) : Type 0 where
  pub classes : All (IsPowerFor m) term.classes
  pub exponents : (j : ℕ) → exponent_of term j ≤ 151

-- the fraction of the vertex v under the exponents of a term
abbrev pub vertex_at : List ℤ → Term → DecoratedTree → ℕ → Fraction
vertex_at ws term g v = vertex_fraction ws (colour_of g v) (ends_at g v) (exponents_at term g v)

-- the sum over the terms
abbrev pub sum_of_terms : List ℤ → DecoratedTree → List Term → Fraction
sum_of_terms ws g terms = sum_of_fractions (map (term_factor ws g) terms)

-- at most 16 classes, each within its limits, whose powers together are at most 151
pub record IsBoundedTerm (m : ℕ) (term : Term) : Type 0 where
  pub few : length term.classes ≤ 16
  pub powers : sum_by (λ (p : Power). p.power) term.classes ≤ 151
  pub classes : All (IsPowerFor m) term.classes
