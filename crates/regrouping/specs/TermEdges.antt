-- The value of a term at a tree, regrouped: a part of each edge, of each step of a walk but the first, and what is left of the tree.
use Rattle.std.specs.Prelude.{ℕ, List, map, ℤ, pos}
use Rattle.arithmetic.specs.Fractions.{Fraction, fraction, times, product_of_fractions, power_of_fraction}
use Rattle.trees.specs.Decorated.{DecoratedTree}
use Rattle.classes.specs.declared.class.Class.{Class}
use Rattle.classes.specs.declared.class.Class.TheVariants.{Mark, Hypersurface, Incidence, R1, Contact, Psi}
use Rattle.classes.specs.declared.class.Power.{Power}
use Rattle.classes.specs.declared.class.Term.{Term}
use Rattle.localisation.specs.ClassValue.{class_edge, class_value, at_edges}
use Rattle.regrouping.specs.TreeParts.{class_step_part}

-- the value of a class that has no fractions at edges and vertices, and 1 for the others
abbrev pub class_whole : List ℤ → Class → DecoratedTree → Fraction
class_whole ws (Mark j) g = class_value ws (Mark j) g
class_whole ws (Incidence q) g = class_value ws (Incidence q) g
class_whole ws (Psi j) g = class_value ws (Psi j) g
class_whole ws (Hypersurface b) g = fraction (pos 1) (pos 1)
class_whole ws (R1 k) g = fraction (pos 1) (pos 1)
class_whole ws Contact g = fraction (pos 1) (pos 1)

-- the product over a term's classes, each to its power
abbrev pub over_classes : List Power → (Class → Fraction) → Fraction
over_classes ps f = product_of_fractions (map (λ (p : Power). power_of_fraction (f p.class) p.power) ps)

abbrev pub term_edge : List ℤ → Term → ℕ → ℕ → ℕ → Fraction
term_edge ws term i j a = over_classes term.classes (λ class. class_edge ws class i j a)

abbrev pub term_step : List ℤ → Term → DecoratedTree → ℕ × ℕ → Fraction
term_step ws term g s = over_classes term.classes (λ class. class_step_part ws class g s)

abbrev pub term_whole : List ℤ → Term → DecoratedTree → Fraction
term_whole ws term g = over_classes term.classes (λ class. class_whole ws class g)

abbrev pub value_parts : List ℤ → Term → DecoratedTree → List (ℕ × ℕ) → Fraction
value_parts ws term g rest =
    times (fraction term.coefficient (pos 1))
    (times (product_of_fractions (at_edges (term_edge ws term) g))
    (times (product_of_fractions (map (term_step ws term g) rest)) (term_whole ws term g)))
