-- The values of powers of classes at a tree.
use Rattle.std.specs.Prelude.{List, map, ℤ}
use Rattle.arithmetic.specs.Fractions.{Fraction, product_of_fractions, power_of_fraction}
use Rattle.trees.specs.Decorated.{DecoratedTree}
use Rattle.classes.specs.declared.class.Power.{Power}
use Rattle.localisation.specs.ClassValue.{class_value}

-- a class's value, to its power
abbrev pub power_value : List ℤ → DecoratedTree → Power → Fraction
power_value ws g p = power_of_fraction (class_value ws p.class g) p.power

-- their product
abbrev pub value_of_powers : List ℤ → DecoratedTree → List Power → Fraction
value_of_powers ws g ps = product_of_fractions (map (power_value ws g) ps)
