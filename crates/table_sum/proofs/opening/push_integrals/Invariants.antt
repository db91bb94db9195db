use Rattle.std.proofs.Common.{◌≡◌, ◌++◌, take}
use Rattle.table_sum.specs.Classes.{classes_of}
use Rattle.table_sum.proofs.opening.push_integrals.Given as goal

abbrev pub invariant-loop-terms : goal.invariant-loop-terms
invariant-loop-terms l = l.classes.items ≡ l.initial.classes.items ++ classes_of (take l.terms-index l.integrals)
