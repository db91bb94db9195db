-- Whether the arguments after a command are a use of it, argument by argument, without the list of their items.
use Rattle.std.specs.Prelude.{ℕ, ◌-◌, Bool, false, ◌&&◌, not, List, [], ◌∷◌, Option, Some, None, nat_le}
use Rattle.std.specs.List.{list_any}
use Rattle.std.specs.Option.{option_map_or}
use Rattle.std.specs.Str.{bytes_eq}
use Rattle.clap.specs.Lexer.{long_of}
use Rattle.clap.specs.Walk.{Text}
use Rattle.command_words.specs.Usages.{Slot, fits, is_plain}
use Rattle.command_words.specs.Words.{is_empty, option_fits}

-- the word is an option of this name
abbrev pub is_option_named : Text → Text → Bool
is_option_named name w = option_map_or (λ p. bytes_eq p.0 name) (long_of w) false

abbrev pub has_option : Text → List Text → Bool
has_option name ws = list_any (is_option_named name) ws

-- the option may have this value, and stands no second time
abbrev pub is_only : List Slot → Text → Text → List Text → Bool
is_only options name value ws = option_fits options (name, value) && not (has_option name ws)

-- whether words are a use from here on: which slots for plain words are left, and how many of them must be there
abbrev pub Test : Type 0
Test = List Slot → ℕ → Bool

abbrev pub plain_test : Text → Test → Test
plain_test w next [] least = false
plain_test w next (s ∷ slots) least = is_plain w && (fits s.limit w && next slots (least - 1))

abbrev pub test_by : Option (Text × Option Text) → List Slot → Text → List Text → Test → (Text → Test) → Test
test_by None options w ws next next_value slots least = plain_test w next slots least
test_by (Some (name, Some v)) options w ws next next_value slots least =
    not (is_empty v) && (is_only options name v ws && next slots least)
test_by (Some (name, None)) options w ws next next_value slots least = next_value name slots least

abbrev mutual
  -- the words are a use
  pub used_from : List Slot → List Text → Test
  used_from options [] slots least = nat_le least 0
  used_from options (w ∷ ws) slots least =
      test_by (long_of w) options w ws (used_from options ws) (value_from options ws) slots least

  -- the words are a use if the first is the value of the option of this name
  pub value_from : List Slot → List Text → Text → Test
  value_from options [] name slots least = false
  value_from options (v ∷ vs) name slots least =
      is_plain v && (is_only options name v vs && used_from options vs slots least)
