use Rattle.std.proofs.Common.{◌≡◌, ◌++◌, drop, map}
use Rattle.command_words.specs.Rows.{rows_in, texts_of}
use Rattle.command_words.specs.Usages.{slot_of}
use Rattle.command_words.proofs.given.plains.Given as goal

abbrev pub invariant-loop-argument : goal.invariant-loop-argument
invariant-loop-argument l =
    map (λ s. s.now) l.found.items ++ texts_of (map slot_of (drop l.argument-index l.arguments)) (rows_in l.matches)
    ≡ texts_of (map slot_of l.arguments) (rows_in l.matches)
