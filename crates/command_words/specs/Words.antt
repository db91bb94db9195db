-- What the arguments after a command say, and when the command is used as it may be.
use Rattle.std.specs.Prelude.{◌≡◌, ◌<◌, ◌++◌, ℕ, Bool, true, false, ◌&&◌, ◌||◌, ◌==◌, not, List, [], ◌∷◌, map}
use Rattle.std.specs.Prelude.{length, drop, Option, Some, None, option_map, option_and_then, if◌then◌else◌, nat_le}
use Rattle.std.specs.Prelude.{find, codes}
use Rattle.std.specs.List.{list_any, list_all}
use Rattle.std.specs.Option.{option_map_or}
use Rattle.std.specs.Str.{bytes_eq}
use Rattle.std.specs.Str.Parse.{digits_value, without_leading_plus}
use Rattle.clap.specs.Lexer.{has_byte, strip_byte}
use Rattle.clap.specs.ValueTests.{is_unsigned_in}
use Rattle.clap.specs.Walk.{Text}
use Rattle.command_words.specs.Usages.{Slot, Usage, fits, is_plain, different}

-- a positional argument, or an option with its value
pub data Item : Type 0 where
  plain : Text → Item
  option : Text → Text → Item

-- the name of an option has no `=` (61)
abbrev pub is_name : Text → Bool
is_name name = not (has_byte 61 name)

-- The arguments say the items: each is a positional argument, or `--name` and an argument as its value that is not
-- empty and does not begin with `-`, or `--name=value` with any value that is not empty.
pub data Says : List Text → List Item → Type 0 where
  nothing : Says [] []
  bare_word : (w : Text) (ws : List Text) (is : List Item) → is_plain w ≡ true → Says ws is
      → Says (w ∷ ws) (plain w ∷ is)
  apart : (name value : Text) (ws : List Text) (is : List Item) → is_name name ≡ true → 0 < length name
      → is_plain value ≡ true → Says ws is
      → Says ((codes "--" ++ name) ∷ value ∷ ws) (option name value ∷ is)
  joined : (name value : Text) (ws : List Text) (is : List Item) → is_name name ≡ true → 0 < length value → Says ws is
      → Says ((codes "--" ++ name ++ 61 ∷ value) ∷ ws) (option name value ∷ is)

-- the positional arguments, and the options with their values
abbrev pub plains_in : List Item → List Text
plains_in [] = []
plains_in (plain w ∷ is) = w ∷ plains_in is
plains_in (option name value ∷ is) = plains_in is

abbrev pub options_in : List Item → List (Text × Text)
options_in [] = []
options_in (plain w ∷ is) = options_in is
options_in (option name value ∷ is) = (name, value) ∷ options_in is

-- each argument has a slot, whose limit it is within
abbrev pub plains_fit : List Slot → List Text → Bool
plains_fit slots [] = true
plains_fit [] (w ∷ ws) = false
plains_fit (s ∷ slots) (w ∷ ws) = fits s.limit w && plains_fit slots ws

abbrev pub slot_named : List Slot → Text → Option Slot
slot_named slots name = find (λ s. bytes_eq s.name name) slots

-- the option is one of these, and its value is within its limit
abbrev pub option_fits : List Slot → Text × Text → Bool
option_fits slots o = option_map_or (λ s. fits s.limit o.1) (slot_named slots o.0) false

-- the names of what was given
abbrev pub names_in : List (Text × Text) → List Text
names_in given = map (λ g. g.0) given

-- as many positional arguments as the command's row says, each within its limit
abbrev pub are_plains : Usage → List Text → Bool
are_plains u ws = nat_le u.least (length ws) && plains_fit u.plains ws

-- each option is one of the command's with a value within its limit, and stands there once
abbrev pub are_options : Usage → List (Text × Text) → Bool
are_options u given = list_all (option_fits u.options) given && different (names_in given)

-- the command is used as it may be
abbrev pub is_use : Usage → List Item → Bool
is_use u items = are_plains u (plains_in items) && are_options u (options_in items)

-- the value of this name
abbrev pub value_named : Text → List (Text × Text) → Option Text
value_named name values = option_map (λ g. g.1) (find (λ g. bytes_eq g.0 name) values)

-- the number that the text is, as Rust reads a u64
abbrev pub number_in : Text → Option ℕ
number_in value =
    if is_unsigned_in 0 18446744073709551615 value then Some (digits_value 10 (without_leading_plus value))
    else None

-- ---- arguments that are refused before they are read as items

abbrev pub is_empty : Text → Bool
is_empty [] = true
is_empty (x ∷ xs) = false

-- the first `=` (61) is the last byte
abbrev pub has_empty_value : Text → Bool
has_empty_value [] = false
has_empty_value (x ∷ xs) = if x == 61 then is_empty xs else has_empty_value xs

-- an argument that begins with `--`, and whose first `=` is its last byte
abbrev pub is_empty_option : Text → Bool
is_empty_option word = option_map_or has_empty_value (option_and_then (strip_byte 45) (strip_byte 45 word)) false

-- an argument that is empty, `-`, `--`, or an option with nothing after its `=`
abbrev pub is_refused_first : Text → Bool
is_refused_first word = ((is_empty word || bytes_eq word (codes "-")) || bytes_eq word (codes "--"))
    || is_empty_option word

-- an argument after the first is such an argument
abbrev pub AreRefusedFirst : List Text → Type 0
AreRefusedFirst words = list_any is_refused_first (drop 1 words) ≡ true
