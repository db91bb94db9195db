use Rattle.std.proofs.Common.{◌≡◌, ◌++◌, drop, map}
use Rattle.command_words.specs.Rows.{pairs_of, rows_in}
use Rattle.command_words.specs.Taken.{pair_of}
use Rattle.command_words.specs.Usages.{slot_of}
use Rattle.command_words.proofs.given.options.Given as goal

abbrev pub invariant-loop-argument : goal.invariant-loop-argument
invariant-loop-argument l =
    map pair_of l.found.items ++ pairs_of (map slot_of (drop l.argument-index l.arguments)) (rows_in l.matches)
    ≡ pairs_of (map slot_of l.arguments) (rows_in l.matches)
