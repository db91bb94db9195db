use Rattle.std.proofs.Common.{◌≡◌, drop, map}
use Rattle.clap.specs.Simple.{app_of}
use Rattle.clap.specs.declared.builder.command.Command.TheViews.{out-Command}
use Rattle.command_words.specs.Clap.{option_rule, with_rules}
use Rattle.command_words.specs.Usages.{slot_of}
use Rattle.command_words.proofs.command.with_options.Given as goal

abbrev pub invariant-loop-argument : goal.invariant-loop-argument
invariant-loop-argument l =
    (with_rules (app_of l.made) (map option_rule (map slot_of (drop l.argument-index l.arguments))) ≡ with_rules (app_of l.initial.made) (map option_rule (map slot_of l.arguments)))
    × ((out-Command l.made).has_globals ≡ (out-Command l.initial.made).has_globals)
