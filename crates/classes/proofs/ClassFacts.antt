-- That a class is within its limits has one proof at most, so that a type may keep it.
use Rattle.std.proofs.Common.{ℕ}
use Rattle.std.proofs.Props.{props}
use Rattle.classes.specs.Classes.{HasMarkWithin}
use Rattle.classes.specs.Degrees.{HasParameterWithinLimit}
use Rattle.classes.specs.declared.class.Class.{Class}
use Rattle.classes.specs.declared.class.Class.TheVariants.{Mark, Hypersurface, Incidence, R1, Contact, Psi}

pub HasParameterWithinLimit-prop : (class : Class) → IsProp (HasParameterWithinLimit class)
HasParameterWithinLimit-prop (Mark mark) = hlevel props
HasParameterWithinLimit-prop (Hypersurface b) = hlevel props
HasParameterWithinLimit-prop (Incidence q) = hlevel props
HasParameterWithinLimit-prop (R1 k) = hlevel props
HasParameterWithinLimit-prop Contact = hlevel props
HasParameterWithinLimit-prop (Psi mark) = hlevel props

pub HasMarkWithin-prop : (m : ℕ) (class : Class) → IsProp (HasMarkWithin m class)
HasMarkWithin-prop m (Mark mark) = hlevel props
HasMarkWithin-prop m (Hypersurface b) = hlevel props
HasMarkWithin-prop m (Incidence q) = hlevel props
HasMarkWithin-prop m (R1 k) = hlevel props
HasMarkWithin-prop m Contact = hlevel props
HasMarkWithin-prop m (Psi mark) = hlevel props

pub ruleset class_facts = (props, HasParameterWithinLimit-prop, HasMarkWithin-prop)
