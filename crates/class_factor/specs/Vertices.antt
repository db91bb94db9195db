-- The part of a class at a vertex of a tree.
use Rattle.std.specs.Prelude.{ℕ, List, length, ℤ}
use Rattle.arithmetic.specs.Fractions.{Fraction}
use Rattle.trees.specs.Decorated.{DecoratedTree}
use Rattle.classes.specs.declared.class.Class.{Class}
use Rattle.localisation.specs.ClassValue.{class_vertex, colour_of, ends_at}

-- the fraction of a class at the vertex v
abbrev pub class_at_vertex : List ℤ → Class → DecoratedTree → ℕ → Fraction
class_at_vertex ws class g v = class_vertex ws class (colour_of g v) (length (ends_at g v))
