-- The classes of terms and of integrals, in their order.
use Rattle.std.specs.Prelude.{◌≡◌, ℕ, ◌+◌, ◌<◌, ◌≤◌, Bool, true, false, List, length, map, get_or, flat_map}
use Rattle.std.specs.List.{list_all}
use Rattle.classes.specs.declared.class.Class.{Class}
use Rattle.classes.specs.declared.class.Class.TheVariants.{Mark, Hypersurface, Incidence, R1, Contact, Psi}
use Rattle.classes.specs.declared.class.Power.{Power}
use Rattle.classes.specs.declared.class.Term.{Term}

-- the classes of the powers of a term
abbrev pub classes_of_powers : List Power → List Class
classes_of_powers ps = map (λ (p : Power). p.class) ps

abbrev pub classes_of_term : Term → List Class
classes_of_term term = classes_of_powers term.classes

-- the classes of an integral, term by term
abbrev pub classes_of_terms : List Term → List Class
classes_of_terms terms = flat_map classes_of_term terms

-- the classes of all integrals, integral by integral
abbrev pub classes_of : List (List Term) → List Class
classes_of integrals = flat_map classes_of_terms integrals

-- these classes are in the list from an index on
pub record AreClassesFrom (classes : List Class) (first : ℕ) (own : List Class) : Type 0 where
  pub within : first + length own ≤ length classes
  pub each : (k : ℕ) (d : Class) → k < length own → get_or classes (first + k) d ≡ get_or own k d

-- a class is no psi class
abbrev pub is_other : Class → Bool
is_other (Mark mark) = true
is_other (Hypersurface b) = true
is_other (Incidence q) = true
is_other (R1 k) = true
is_other Contact = true
is_other (Psi mark) = false

-- none of the classes is a psi class
abbrev pub are_others : List Power → Bool
are_others ps = list_all (λ (p : Power). is_other p.class) ps
