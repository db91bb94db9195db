use Rattle.std.proofs.Common.{◌≡◌, ◌++◌, ◌-◌, length, replicate}
use Rattle.factor_table.proofs.opening.blank_words.Given as goal

abbrev pub invariant-loop : goal.invariant-loop
invariant-loop l = l.words.items ≡ l.initial.words.items ++ replicate (l.counter - length l.initial.words.items) 0
