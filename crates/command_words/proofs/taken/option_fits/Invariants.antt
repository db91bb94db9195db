use Rattle.std.proofs.Common.{◌≡◌, drop, map}
use Rattle.command_words.specs.Usages.{slot_of}
use Rattle.command_words.specs.Words.{option_fits}
use Rattle.command_words.proofs.taken.option_fits.Given as goal

abbrev pub invariant-loop-option : goal.invariant-loop-option
invariant-loop-option l =
    option_fits (map slot_of (drop l.option-index l.options)) (l.name, l.value)
    ≡ option_fits (map slot_of l.options) (l.name, l.value)
