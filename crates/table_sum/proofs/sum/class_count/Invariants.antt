use Rattle.std.proofs.Common.{◌≡◌, take, length}
use Rattle.table_sum.specs.Classes.{classes_of_terms}
use Rattle.table_sum.proofs.sum.class_count.Given as goal

abbrev pub invariant-loop-term : goal.invariant-loop-term
invariant-loop-term l = l.count ≡ length (classes_of_terms (take l.term-index l.terms))
