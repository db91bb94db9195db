-- What a command asks for, by its name and what it was given.
use Rattle.std.specs.Prelude.{List, map, Option, find, option_and_then}
use Rattle.std.specs.Str.{bytes_eq}
use Rattle.clap.specs.Walk.{Text}
use Rattle.command_line.specs.Requests.{Options, Request}
use Rattle.command_line.specs.Table.{CommandRule, all_commands}
use Rattle.command_words.specs.declared.given.Given.{Given}
use Rattle.command_words.specs.Taken.{pair_of}
use Rattle.command_words.specs.Words.{value_named}

abbrev pub plains_of : Given → List Text
plains_of g = map (λ w. w.now) g.plains.items

abbrev pub options_of : Given → Options
options_of g name = value_named name (map pair_of g.options.items)

abbrev pub rule_named : Text → Option CommandRule
rule_named name = find (λ r. bytes_eq r.usage.name name) all_commands

abbrev pub request_named : Text → List Text → Options → Option Request
request_named name plains options = option_and_then (λ r. r.asked plains options) (rule_named name)
