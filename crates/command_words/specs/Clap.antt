-- The command of clap that accepts the arguments which a table allows.
use Rattle.std.specs.Prelude.{ℕ, ◌+◌, Bool, true, false, List, [], ◌∷◌, ◌++◌, map, Option, Some, None, nat_lt}
use Rattle.clap.specs.Walk.{Rule, Text}
use Rattle.clap.specs.Simple.{App, Shape, new_rule, new_shape, on_top}
use Rattle.clap.specs.declared.builder.action.ArgAction.TheVariants.{Set}
use Rattle.clap.specs.declared.builder.value_parser.ValueParser.{ValueParser}
use Rattle.clap.specs.declared.builder.value_parser.ValueParser.TheVariants as vp
use Rattle.command_words.specs.declared.table.Limit.{Limit}
use Rattle.command_words.specs.declared.table.Limit.TheVariants as limit
use Rattle.command_words.specs.declared.table.Program.{Program}
use Rattle.command_words.specs.Usages.{Slot, Usage, usages_of}

abbrev pub parser_for : Limit → Option ValueParser
parser_for (limit.Number low high) = Some (vp.Unsigned low high)
parser_for limit.Text = None

abbrev pub plain_rule : Bool → Slot → Rule
plain_rule required s = record (new_rule s.name) {
  action = Some Set;
  value_names = 1;
  parser = parser_for s.limit;
  required = required;
}

abbrev pub option_rule : Slot → Rule
option_rule s = record (new_rule s.name) {
  long = Some s.name;
  action = Some Set;
  value_names = 1;
  parser = parser_for s.limit;
}

-- the positional arguments from the position i on
abbrev pub plain_rules : ℕ → ℕ → List Slot → List Rule
plain_rules least i [] = []
plain_rules least i (s ∷ slots) = plain_rule (nat_lt i least) s ∷ plain_rules least (i + 1) slots

-- a command with more rules
abbrev pub with_rules : App → List Rule → App
with_rules a rs = on_top (λ s. record s { rules = s.rules ++ rs }) a

-- a command with more subcommands
abbrev pub with_subs : App → List Shape → App
with_subs a ss = record { top = record a.top { is_leaf = false }; subs = a.subs ++ ss }

abbrev pub rules_for : Usage → List Rule
rules_for u = plain_rules u.least 0 u.plains ++ map option_rule u.options

abbrev pub shape_for : Usage → Shape
shape_for u = record (new_shape u.name) { rules = rules_for u }

abbrev pub bare_shape : Shape → Shape
bare_shape s =
    record s { disable_help_flag = true; disable_help_subcommand = true; subcommand_required = true }

-- the whole command, over the rows of a table
abbrev pub app_for : Text → List Usage → App
app_for name table =
    record { top = record (bare_shape (new_shape name)) { is_leaf = false }; subs = map shape_for table }

abbrev pub app_of_program : Program → App
app_of_program p = app_for p.name.now (usages_of p)
