-- What the words after a command (its arguments) say, as a function of them.
use Rattle.std.specs.Prelude.{Bool, false, List, [], ◌∷◌, Option, Some, None, option_map}
use Rattle.std.specs.Option.{option_map_or}
use Rattle.clap.specs.Lexer.{long_of, short_of}
use Rattle.clap.specs.Walk.{Text}
use Rattle.command_words.specs.Usages.{Usage}
use Rattle.command_words.specs.Rows.{usage_named}
use Rattle.command_words.specs.Words.{Item, plain, option, is_use}

-- what a word looks like: `--name=value`, `--name`, a bundle of flags, or none of these
pub data Form : Type 0 where
  attached : Text → Text → Form
  alone : Text → Form
  bundle : Form
  bare : Form

abbrev pub long_form : Text → Option Text → Form
long_form name (Some value) = attached name value
long_form name None = alone name

abbrev pub form_by : Option (Text × Option Text) → Option Text → Form
form_by (Some p) short = long_form p.0 p.1
form_by None (Some flags) = bundle
form_by None None = bare

abbrev pub form_of : Text → Form
form_of w = form_by (long_of w) (short_of w)

abbrev pub Items : Type 0
Items = Option (List Item)

-- the items behind one more item
abbrev pub more : Item → Items → Items
more i = option_map (λ is. i ∷ is)

-- a value, and the items behind it
abbrev pub Rest : Type 0
Rest = Option (Text × List Item)

abbrev pub items_by : Form → Text → Items → Rest → Items
items_by (attached name value) word items rest = more (option name value) items
items_by (alone name) word items rest = option_map (λ r. option name r.0 ∷ r.1) rest
items_by bundle word items rest = None
items_by bare word items rest = more (plain word) items

abbrev pub rest_by : Form → Text → Items → Rest
rest_by bare word items = option_map (λ is. (word, is)) items
rest_by _ word items = None

-- what the words say, if they say something
abbrev mutual
  pub items_of : List Text → Items
  items_of [] = Some []
  items_of (w ∷ ws) = items_by (form_of w) w (items_of ws) (rest_of ws)

  pub rest_of : List Text → Rest
  rest_of [] = None
  rest_of (w ∷ ws) = rest_by (form_of w) w (items_of ws)

-- the words after the command say a use of it
abbrev pub is_used : List Text → Usage → Bool
is_used ws u = option_map_or (is_use u) (items_of ws) false

-- any first word, the name of a command, and a use of it
abbrev pub is_words : List Usage → List Text → Bool
is_words table [] = false
is_words table (program ∷ []) = false
is_words table (program ∷ command ∷ ws) = option_map_or (is_used ws) (usage_named table command) false
