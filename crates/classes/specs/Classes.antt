-- The classes that a tree with so many marks takes.
use Rattle.std.specs.Prelude.{ℕ, ◌≤◌}
use Rattle.classes.specs.declared.class.Class.{Class}
use Rattle.classes.specs.declared.class.Class.TheVariants.{Mark, Hypersurface, Incidence, R1, Contact, Psi}
use Rattle.classes.specs.declared.class.Power.{Power}
use Rattle.classes.specs.Degrees.{HasParameterWithinLimit}

-- the mark of a class, if it has one, is from 1 to m
abbrev pub HasMarkWithin : ℕ → Class → Type 0
HasMarkWithin m (Mark mark) = (1 ≤ mark) × (mark ≤ m)
HasMarkWithin m (Hypersurface b) = Unit {0}
HasMarkWithin m (Incidence q) = Unit {0}
HasMarkWithin m (R1 k) = Unit {0}
HasMarkWithin m Contact = Unit {0}
HasMarkWithin m (Psi mark) = (1 ≤ mark) × (mark ≤ m)

-- a class whose parameter and mark are within their limits
pub record IsClassFor (m : ℕ) (class : Class) : Type 0 where
  pub parameter : HasParameterWithinLimit class
  pub mark : HasMarkWithin m class

-- a power of such a class
abbrev pub IsPowerFor : ℕ → Power → Type 0
IsPowerFor m p = IsClassFor m p.class
