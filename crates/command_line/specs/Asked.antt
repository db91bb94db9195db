-- What the arguments ask of the program.
use Rattle.std.specs.Prelude.{◌≡◌, List, Some, Result, Ok, Err}
use Rattle.std.specs.List.{Contains}
use Rattle.clap.specs.Walk.{Text}
use Rattle.command_line.specs.declared.command.Command.{Command}
use Rattle.command_line.specs.declared.table.Commands.{Commands}
use Rattle.command_line.specs.Requests.{Options, Request, request_of}
use Rattle.command_line.specs.Table.{CommandRule, rules_of, table_of_commands}
use Rattle.command_words.specs.declared.reading.WordsError.{WordsError}
use Rattle.command_words.specs.Words.{Item, options_in, plains_in, value_named}
use Rattle.command_words.specs.Taken.{IsWordsRefusal, IsUse}

-- the values of the options among the items
abbrev pub values_of : List Item → Options
values_of items name = value_named name (options_in items)

-- The arguments are a use of one of the commands, and by its positional arguments and options it asks for this.
pub record Asks (commands : Commands) (words : List Text) (request : Request) : Type 0 where
  pub rule : CommandRule
  pub items : List Item
  pub known : Contains (rules_of commands) rule
  pub is_use : IsUse (table_of_commands commands) words rule.usage items
  pub asked : rule.asked (plains_in items) (values_of items) ≡ Some request

-- the answer to the arguments: what they ask if they are accepted, and otherwise why they are not
abbrev pub IsReading : Commands → List Text → Result Command WordsError → Type 0
IsReading commands words (Ok command) = Asks commands words (request_of command)
IsReading commands words (Err e) = IsWordsRefusal (table_of_commands commands) words e
