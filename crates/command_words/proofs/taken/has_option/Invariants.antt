use Rattle.std.proofs.Common.{◌≡◌, drop, map, string_bytes}
use Rattle.command_words.specs.Told.{has_option}
use Rattle.command_words.proofs.taken.has_option.Given as goal

abbrev pub invariant-loop-word : goal.invariant-loop-word
invariant-loop-word l =
    has_option l.name (map string_bytes (drop l.word-index l.words)) ≡ has_option l.name (map string_bytes l.words)
