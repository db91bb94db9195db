-- The arguments that are accepted, and what reading them answers. In names of this crate a word is an argument of the
-- command line, and a plain word is a positional one.
use Rattle.std.specs.Prelude.{◌≡◌, true, List, ◌∷◌, map, Result, Ok, Err}
use Rattle.std.specs.List.{Contains}
use Rattle.clap.specs.Walk.{Text}
use Rattle.command_words.specs.declared.given.Given.{Given}
use Rattle.command_words.specs.declared.given.GivenOption.{GivenOption}
use Rattle.command_words.specs.declared.reading.WordsError.{WordsError}
use Rattle.command_words.specs.declared.reading.WordsError.TheVariants.{NoMemory, Refused, ByCommand}
use Rattle.command_words.specs.Usages.{Usage, different}
use Rattle.command_words.specs.Words.{AreRefusedFirst, Item, Says, is_use, names_in, options_in, plains_in}
use Rattle.command_words.specs.Words.{value_named}

-- The arguments are a use of a command of the table: after any first argument stands its name, what follows says the
-- items, and the command may be used with these.
pub record IsUse (table : List Usage) (words : List Text) (u : Usage) (items : List Item) : Type 0 where
  pub first : Text
  pub rest : List Text
  pub split : words ≡ first ∷ u.name ∷ rest
  pub row : Contains table u
  pub says : Says rest items
  pub allowed : is_use u items ≡ true

-- the arguments are a use of some command of the table
abbrev pub AreTaken : List Usage → List Text → Type 0
AreTaken table words = (u : Usage) × (items : List Item) × IsUse table words u items

abbrev pub pair_of : GivenOption → Text × Text
pair_of o = (o.name.now, o.value.now)

-- What was given is this command with the positional arguments of these items, in their order, and each option of the
-- items once: for each name the value that the items give to an option of this name.
pub record HasItems (g : Given) (u : Usage) (items : List Item) : Type 0 where
  pub command : g.command.now ≡ u.name
  pub plains : map (λ w. w.now) g.plains.items ≡ plains_in items
  pub options : (name : Text) → value_named name (map pair_of g.options.items) ≡ value_named name (options_in items)
  pub once : different (names_in (map pair_of g.options.items)) ≡ true

-- the arguments are a use of a command of the table, and this is what they give it
abbrev pub IsGiven : List Usage → List Text → Given → Type 0
IsGiven table words g = (u : Usage) × (items : List Item) × IsUse table words u items × HasItems g u items

-- Why the arguments are not accepted. Those that the first look refuses are no use of a command either.
abbrev pub IsWordsRefusal : List Usage → List Text → WordsError → Type 0
IsWordsRefusal table words Refused = AreRefusedFirst words
IsWordsRefusal table words (ByCommand text) = (¬ AreRefusedFirst words) × (¬ AreTaken table words)
IsWordsRefusal table words NoMemory = ¬ AreRefusedFirst words

-- the answer to the arguments: what they give if they are accepted, and otherwise why they are not
abbrev pub IsWordsAnswer : List Usage → List Text → Result Given WordsError → Type 0
IsWordsAnswer table words (Ok g) = IsGiven table words g
IsWordsAnswer table words (Err e) = IsWordsRefusal table words e
