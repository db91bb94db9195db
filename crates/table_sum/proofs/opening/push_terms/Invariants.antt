use Rattle.std.proofs.Common.{◌≡◌, ◌++◌, take}
use Rattle.table_sum.specs.Classes.{classes_of_terms}
use Rattle.table_sum.proofs.opening.push_terms.Given as goal

abbrev pub invariant-loop-term : goal.invariant-loop-term
invariant-loop-term l = l.classes.items ≡ l.initial.classes.items ++ classes_of_terms (take l.term-index l.terms)
