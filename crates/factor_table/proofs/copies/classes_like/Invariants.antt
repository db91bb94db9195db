use Rattle.std.proofs.Common.{◌≡◌, take}
use Rattle.factor_table.proofs.copies.classes_like.Given as goal

abbrev pub invariant-loop-class : goal.invariant-loop-class
invariant-loop-class l = l.copies.items ≡ take l.class-index l.classes
