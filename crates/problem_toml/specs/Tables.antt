-- What is looked up in a TOML table, and what is refused there. Each refusal says where the table stands, and at which
-- key.
use Rattle.std.specs.Prelude.{ℕ, ℤ, pos, List, [], ◌∷◌, Bool, true, ◌&&◌, ◌||◌, Option, Some, None, Result, Ok, Err, int_lt, nat_le, unsigned_abs, if◌then◌else◌, is_some}
use Rattle.std.specs.Option.{ok_or}
use Rattle.std.specs.List.{list_any}
use Rattle.std.specs.Str.{bytes_eq}
use Rattle.toml.specs.Data.{Data, string, integer, array, as_table, Items, no_items, item, Members, no_members, member, get_member}
use Rattle.problem_toml.specs.Keys.{key_of}
use Rattle.problem_toml.specs.Steps.{◌>>=◌, keep}
use Rattle.problem_toml.specs.declared.error.ProblemError.{ProblemError}
use Rattle.problem_toml.specs.declared.error.ProblemError.TheVariants.{MissingKey, UnknownKey, WrongType, OutOfLimits}
use Rattle.problem_toml.specs.declared.name.Name.{Name}
use Rattle.problem_toml.specs.declared.place.Place.{Place}

-- the value at a key that has to be there
abbrev pub present : Place → Name → Members → Result Data ProblemError
present place name doc = ok_or (get_member (key_of name) doc) (MissingKey place name)

-- the first of these keys that is not there is refused
abbrev pub all_present : Place → List Name → Members → Result (Unit {0}) ProblemError
all_present place [] doc = Ok tt
all_present place (n ∷ ns) doc = do
  _ ← present place n doc
  all_present place ns doc

abbrev pub is_known : List ℕ → List Name → Bool
is_known key names = list_any (λ n. bytes_eq (key_of n) key) names

-- the least key that is none of these; the members of a table ascend by their keys
abbrev pub first_unknown : List Name → Members → Option (List ℕ)
first_unknown names no_members = None
first_unknown names (member key d rest) = if is_known key names then first_unknown names rest else Some key

abbrev pub none_unknown : Place → Option (List ℕ) → Result (Unit {0}) ProblemError
none_unknown place None = Ok tt
none_unknown place (Some key) = Err (UnknownKey place key)

-- each key is one of these, or the least that is not is refused
abbrev pub all_known : Place → List Name → Members → Result (Unit {0}) ProblemError
all_known place names doc = none_unknown place (first_unknown names doc)

-- the value, if it is an integer, a text, an array of integers or an array of tables
abbrev pub integer_of : Place → Name → Data → Result ℤ ProblemError
integer_of place name (integer z) = Ok z
integer_of place name _ = Err (WrongType place name)

abbrev pub string_of : Place → Name → Data → Result (List ℕ) ProblemError
string_of place name (string text) = Ok text
string_of place name _ = Err (WrongType place name)

abbrev pub integers_in : Place → Name → Items → Result (List ℤ) ProblemError
integers_in place name no_items = Ok []
integers_in place name (item d ds) = do
  z ← integer_of place name d
  zs ← integers_in place name ds
  Ok (z ∷ zs)

abbrev pub integers_of : Place → Name → Data → Result (List ℤ) ProblemError
integers_of place name (array ds) = integers_in place name ds
integers_of place name _ = Err (WrongType place name)

abbrev pub all_tables : Items → Bool
all_tables no_items = true
all_tables (item d ds) = is_some (as_table d) && all_tables ds

abbrev pub with_table : Option Members → List Members → List Members
with_table None docs = docs
with_table (Some doc) docs = doc ∷ docs

-- the tables among the elements
abbrev pub tables_among : Items → List Members
tables_among no_items = []
tables_among (item d ds) = with_table (as_table d) (tables_among ds)

abbrev pub tables_of : Place → Name → Data → Result (List Members) ProblemError
tables_of place name (array ds) = if all_tables ds then Ok (tables_among ds) else Err (WrongType place name)
tables_of place name _ = Err (WrongType place name)

-- the integer, if it is not left out
abbrev pub integer_or : Place → Name → ℤ → Option Data → Result ℤ ProblemError
integer_or place name otherwise None = Ok otherwise
integer_or place name otherwise (Some d) = integer_of place name d

unfoldable pub integer_at : Place → Name → Members → Result ℤ ProblemError
integer_at place name doc = do
  d ← present place name doc
  integer_of place name d

unfoldable pub integers_at : Place → Name → Members → Result (List ℤ) ProblemError
integers_at place name doc = do
  d ← present place name doc
  integers_of place name d

unfoldable pub tables_at : Place → Name → Members → Result (List Members) ProblemError
tables_at place name doc = do
  d ← present place name doc
  tables_of place name d

-- a number from `least` to `most`
abbrev pub within : Place → Name → ℕ → ℕ → ℤ → Result ℕ ProblemError
within place name least most z =
    if int_lt z (pos least) || int_lt (pos most) z then Err (OutOfLimits place name) else Ok (unsigned_abs z)

-- a number of elements from `least` to `most`
abbrev pub count_within : Place → Name → ℕ → ℕ → ℕ → Result (Unit {0}) ProblemError
count_within place name least most count = keep (nat_le least count && nat_le count most) (OutOfLimits place name)
