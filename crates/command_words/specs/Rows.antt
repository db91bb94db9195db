-- The values of a use, as clap keeps them.
use Rattle.std.specs.Prelude.{◌≡◌, Bool, List, [], ◌∷◌, map, Option, Some, None, find}
use Rattle.std.specs.Str.{bytes_eq}
use Rattle.clap.specs.Matches.{found_of}
use Rattle.clap.specs.Walk.{Row, Text, first_of, rows_of}
use Rattle.clap.specs.Simple.{subcommand_rows_of}
use Rattle.clap.specs.declared.parser.matches.ArgMatches.{ArgMatches}
use Rattle.clap.specs.declared.builder.value_parser.Reading.TheVariants.{AsWritten}
use Rattle.clap.specs.declared.parser.matches.ValueSource.TheVariants.{CommandLine}
use Rattle.command_words.specs.declared.given.Given.{Given}
use Rattle.command_words.specs.Taken.{pair_of}
use Rattle.command_words.specs.Usages.{Slot, Usage, is_among}
use Rattle.command_words.specs.Words.{Item, plain, option, names_in}

abbrev pub has_name : Text → List (Text × Text) → Bool
has_name name given = is_among name (names_in given)

-- the values by their names, in the order of the arguments: each positional argument has the name of the next slot
abbrev pub values_in : List Slot → List Item → List (Text × Text)
values_in slots [] = []
values_in [] (plain w ∷ is) = values_in [] is
values_in (s ∷ slots) (plain w ∷ is) = (s.name, w) ∷ values_in slots is
values_in slots (option name value ∷ is) = (name, value) ∷ values_in slots is

abbrev pub row_for : Text × Text → Row
row_for g = record { id = g.0; values = g.1 ∷ []; count = None; source = Some CommandLine; reading = AsWritten }

abbrev pub rows_for : List (Text × Text) → List Row
rows_for given = map row_for given

-- the rows of the values that clap found
abbrev pub rows_in : ArgMatches → List Row
rows_in m = rows_of (found_of m)

abbrev pub texts_then : Option Text → List Text → List Text
texts_then None rest = []
texts_then (Some t) rest = t ∷ rest

-- the values of the slots, up to the first that has none
abbrev pub texts_of : List Slot → List Row → List Text
texts_of [] rows = []
texts_of (s ∷ slots) rows = texts_then (first_of s.name rows) (texts_of slots rows)

abbrev pub pair_then : Text → Option Text → List (Text × Text) → List (Text × Text)
pair_then name None rest = rest
pair_then name (Some t) rest = (name, t) ∷ rest

-- the values of those slots that have one
abbrev pub pairs_of : List Slot → List Row → List (Text × Text)
pairs_of [] rows = []
pairs_of (s ∷ slots) rows = pair_then s.name (first_of s.name rows) (pairs_of slots rows)

-- the command of this name
abbrev pub usage_named : List Usage → Text → Option Usage
usage_named table name = find (λ u. bytes_eq u.name name) table

-- what is given has the name and the values that the matches have for a command of the table
pub record HoldsRows (g : Given) (u : Usage) (rows : List Row) : Type 0 where
  pub command : g.command.now ≡ u.name
  pub plains : map (λ w. w.now) g.plains.items ≡ texts_of u.plains rows
  pub options : map pair_of g.options.items ≡ pairs_of u.options rows

-- if the matches are of a command of the table, it is given with their values
abbrev pub GivesUse : List Usage → ArgMatches → Option Given → Type 0
GivesUse table m g = (u : Usage) (rows : List Row) → usage_named table u.name ≡ Some u
    → subcommand_rows_of m ≡ Some (u.name, rows)
    → (given : Given) × (g ≡ Some given) × HoldsRows given u rows
