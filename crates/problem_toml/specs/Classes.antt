-- The classes of a term, each to its power.
use Rattle.std.specs.Prelude.{ℕ, ◌+◌, ℤ, pos, List, [], ◌∷◌, Option, Some, None, Result, Ok}
use Rattle.std.specs.Option.{ok_or}
use Rattle.toml.specs.Data.{Members, get_member}
use Rattle.classes.specs.declared.class.Power.{Power}
use Rattle.problem_toml.specs.Keys.{key_of}
use Rattle.problem_toml.specs.Kinds.{kind_of, parameter_key, class_of}
use Rattle.problem_toml.specs.Steps.{◌>>=◌}
use Rattle.problem_toml.specs.Tables.{present, all_known, string_of, integer_at, integer_or, within}
use Rattle.problem_toml.specs.declared.error.ProblemError.{ProblemError}
use Rattle.problem_toml.specs.declared.error.ProblemError.TheVariants.{UnknownKind}
use Rattle.problem_toml.specs.declared.kind.Kind.{Kind}
use Rattle.problem_toml.specs.declared.name.Name.{Name}
use Rattle.problem_toml.specs.declared.name.Name.TheVariants as key
use Rattle.problem_toml.specs.declared.place.Place.{Place}
use Rattle.problem_toml.specs.declared.place.Place.TheVariants.{Class}
use Rattle.problem_toml.specs.declared.version.Version.{Version}

-- the kind of class j of term i
unfoldable pub kind_at : Version → ℕ → ℕ → Members → Result Kind ProblemError
kind_at version i j doc = do
  d ← present (Class i j) key.Kind doc
  text ← string_of (Class i j) key.Kind d
  ok_or (kind_of version text) (UnknownKind i j)

-- a parameter has to be there
abbrev pub parameter_present : Place → Option Name → Members → Result (Unit {0}) ProblemError
parameter_present place None doc = Ok tt
parameter_present place (Some name) doc = do
  _ ← present place name doc
  Ok tt

-- the keys of a class whose kind has this parameter
abbrev pub class_keys : Option Name → List Name
class_keys None = key.Kind ∷ key.Power ∷ []
class_keys (Some name) = key.Kind ∷ key.Power ∷ name ∷ []

-- the parameter as it is written, 0 for a kind without one
abbrev pub parameter_at : Place → Option Name → Members → Result ℤ ProblemError
parameter_at place None doc = Ok (pos 0)
parameter_at place (Some name) doc = integer_at place name doc

-- class j of term i, to its power, which is 1 if it is left out
unfoldable pub power_of : Version → ℕ → ℕ → ℕ → Members → Result Power ProblemError
power_of version marks i j doc = do
  kind ← kind_at version i j doc
  _ ← parameter_present (Class i j) (parameter_key kind) doc
  _ ← all_known (Class i j) (class_keys (parameter_key kind)) doc
  parameter ← parameter_at (Class i j) (parameter_key kind) doc
  power ← integer_or (Class i j) key.Power (pos 1) (get_member (key_of key.Power) doc)
  class ← class_of (Class i j) marks kind parameter
  power ← within (Class i j) key.Power 1 64 power
  Ok (record { class = class; power = power })

-- the classes of term i from index j on
abbrev pub powers_from : Version → ℕ → ℕ → ℕ → List Members → Result (List Power) ProblemError
powers_from version marks i j [] = Ok []
powers_from version marks i j (doc ∷ docs) = do
  p ← power_of version marks i j doc
  ps ← powers_from version marks i (j + 1) docs
  Ok (p ∷ ps)
