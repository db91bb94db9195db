use Rattle.std.proofs.Common.{◌≡◌, ◌++◌, map, take}
use Rattle.arithmetic.specs.Numbers.{reduce}
use Rattle.factor_table.proofs.opening.push_weights.Given as goal

abbrev pub invariant-loop-colour : goal.invariant-loop-colour
invariant-loop-colour l =
    l.words.items ≡ l.initial.words.items ++ map (reduce 18446744073709551616) (take l.colour l.setup)
