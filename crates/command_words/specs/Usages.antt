-- How a command is used: the arguments that it accepts, as a row of a table.
use Rattle.std.specs.Prelude.{ℕ, Bool, true, false, ◌&&◌, ◌==◌, not, List, [], ◌∷◌, ◌++◌, map, length}
use Rattle.std.specs.Prelude.{nat_le, nat_lt}
use Rattle.std.specs.List.{list_all, list_any}
use Rattle.std.specs.Str.{bytes_eq}
use Rattle.clap.specs.ValueTests.{is_unsigned_in}
use Rattle.clap.specs.Walk.{Text}
use Rattle.command_words.specs.declared.table.Limit.{Limit}
use Rattle.command_words.specs.declared.table.Limit.TheVariants as limit
use Rattle.command_words.specs.declared.table.Argument.{Argument}
use Rattle.command_words.specs.declared.table.CommandRow.{CommandRow}
use Rattle.command_words.specs.declared.table.Program.{Program}

-- the name of a value, and its limit
pub record Slot : Type 0 where
  pub name : Text
  pub limit : Limit

-- a command: its name, its positional arguments, of which the first `least` must be there, and its options
pub record Usage : Type 0 where
  pub name : Text
  pub plains : List Slot
  pub least : ℕ
  pub options : List Slot

-- the same, of the rows of a program, whose texts for messages do not matter for what is accepted
abbrev pub slot_of : Argument → Slot
slot_of a = record { name = a.name.now; limit = a.limit }

abbrev pub usage_of : CommandRow → Usage
usage_of r = record {
  name = r.name.now;
  plains = map slot_of r.plains.now;
  least = r.least;
  options = map slot_of r.options.now;
}

abbrev pub usages_of : Program → List Usage
usages_of p = map usage_of p.commands.now

-- the value is within the limit: any text, or a number from `low` to `high` as Rust reads a u64
abbrev pub fits : Limit → Text → Bool
fits (limit.Number low high) value = is_unsigned_in low high value
fits limit.Text value = true

-- the text is one of these
abbrev pub is_among : Text → List Text → Bool
is_among t ts = list_any (λ x. bytes_eq x t) ts

abbrev pub different : List Text → Bool
different [] = true
different (t ∷ ts) = not (is_among t ts) && different ts

abbrev pub names_of : List Slot → List Text
names_of slots = map (λ s. s.name) slots

abbrev pub commands_of : List Usage → List Text
commands_of table = map (λ u. u.name) table

-- a positional argument, like any value that is an argument of its own, is not empty and does not begin with `-` (45)
abbrev pub is_plain : Text → Bool
is_plain [] = false
is_plain (x ∷ xs) = not (x == 45)

-- The names of the positional arguments and of the options differ, each positional argument that must be there has a
-- name, and there are at most 1,000.
abbrev pub is_sound : Usage → Bool
is_sound u = different (names_of u.plains ++ names_of u.options)
    && (nat_le u.least (length u.plains) && nat_le (length u.plains) 1000)

-- There is a command, each is sound, and their names differ, are not empty and do not begin with `-`.
abbrev pub is_sound_table : List Usage → Bool
is_sound_table table = (nat_lt 0 (length table) && list_all is_sound table)
    && (list_all is_plain (commands_of table) && different (commands_of table))
