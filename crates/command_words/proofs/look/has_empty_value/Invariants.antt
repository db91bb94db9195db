use Rattle.std.proofs.Common.{◌≡◌, drop}
use Rattle.command_words.specs.Words.{has_empty_value}
use Rattle.command_words.proofs.look.has_empty_value.Given as goal

abbrev pub invariant-loop-index : goal.invariant-loop-index
invariant-loop-index l = has_empty_value (drop l.index l.text) ≡ has_empty_value l.text
