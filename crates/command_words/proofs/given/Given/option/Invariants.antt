use Rattle.std.proofs.Common.{◌≡◌, drop, map}
use Rattle.command_words.specs.Taken.{pair_of}
use Rattle.command_words.specs.Words.{value_named}
use Rattle.command_words.proofs.given.Given.option.Given as goal

abbrev pub invariant-loop-option : goal.invariant-loop-option
invariant-loop-option l =
    value_named l.name (map pair_of (drop l.option-index l.self.options.items)) ≡ value_named l.name
    (map pair_of l.self.options.items)
