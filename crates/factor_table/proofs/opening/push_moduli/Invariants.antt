use Rattle.std.proofs.Common.{◌≡◌, ◌++◌, take}
use Rattle.factor_table.proofs.opening.push_moduli.Given as goal

abbrev pub invariant-loop-index : goal.invariant-loop-index
invariant-loop-index l = l.words.items ≡ l.initial.words.items ++ take l.index l.moduli
