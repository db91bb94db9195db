use Rattle.std.proofs.Common.{◌≡◌, ◌<◌, drop, map, false}
use Rattle.clap.specs.Simple.{app_of}
use Rattle.command_words.specs.Clap.{app_for, shape_for, with_subs}
use Rattle.command_words.specs.Usages.{usage_of}
use Rattle.command_words.proofs.command.command.Given as goal

abbrev pub invariant-loop-row : goal.invariant-loop-row
invariant-loop-row l =
    (with_subs (app_of l.made) (map shape_for (map usage_of (drop l.row-index l.program.commands.now))) ≡ app_for l.program.name.now (map usage_of l.program.commands.now))
    × (0 < l.row-index → (app_of l.made).top.is_leaf ≡ false)
