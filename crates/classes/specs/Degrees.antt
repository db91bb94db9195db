-- The degrees of classes.
use Rattle.std.specs.Prelude.{ℕ, ◌+◌, ◌-◌, ◌*◌, ◌≤◌}
use Rattle.classes.specs.declared.class.Class.{Class}
use Rattle.classes.specs.declared.class.Class.TheVariants.{Mark, Hypersurface, Incidence, R1, Contact, Psi}

-- the parameter of a class, if it has one, is within its limit
abbrev pub HasParameterWithinLimit : Class → Type 0
HasParameterWithinLimit (Mark mark) = Unit {0}
HasParameterWithinLimit (Hypersurface b) = (1 ≤ b) × (b ≤ 64)
HasParameterWithinLimit (Incidence q) = (2 ≤ q) × (q ≤ 12)
HasParameterWithinLimit (R1 k) = (1 ≤ k) × (k ≤ 64)
HasParameterWithinLimit Contact = Unit {0}
HasParameterWithinLimit (Psi mark) = Unit {0}

-- the degree of a class on the maps of degree d
abbrev pub class_degree : Class → ℕ → ℕ
class_degree (Mark mark) d = 1
class_degree (Hypersurface b) d = b * d + 1
class_degree (Incidence q) d = q - 1
class_degree (R1 k) d = k * d - 1
class_degree Contact d = 2 * d - 1
class_degree (Psi mark) d = 1
