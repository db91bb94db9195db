use Rattle.std.proofs.Common.{◌≡◌, drop, map}
use Rattle.clap.specs.Simple.{app_of}
use Rattle.clap.specs.declared.builder.command.Command.TheViews.{out-Command}
use Rattle.command_words.specs.Clap.{plain_rules, with_rules}
use Rattle.command_words.specs.Usages.{slot_of}
use Rattle.command_words.proofs.command.with_plains.Given as goal

abbrev pub invariant-loop-index : goal.invariant-loop-index
invariant-loop-index l =
    (with_rules (app_of l.made) (plain_rules l.least l.index (map slot_of (drop l.index l.arguments))) ≡ with_rules (app_of l.initial.made) (plain_rules l.least 0 (map slot_of l.arguments)))
    × ((out-Command l.made).has_globals ≡ (out-Command l.initial.made).has_globals)
