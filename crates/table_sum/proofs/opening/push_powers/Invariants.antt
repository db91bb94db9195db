use Rattle.std.proofs.Common.{◌≡◌, ◌++◌, take}
use Rattle.table_sum.specs.Classes.{classes_of_powers}
use Rattle.table_sum.proofs.opening.push_powers.Given as goal

abbrev pub invariant-loop-power : goal.invariant-loop-power
invariant-loop-power l = l.classes.items ≡ l.initial.classes.items ++ classes_of_powers (take l.power-index l.powers)
