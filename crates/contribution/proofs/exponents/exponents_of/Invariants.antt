use Rattle.std.proofs.Common.{◌≡◌, map, take}
use Rattle.localisation.specs.ClassValue.{exponent_of}
use Rattle.contribution.proofs.exponents.exponents_of.Given as goal

abbrev pub invariant-loop-mark : goal.invariant-loop-mark
invariant-loop-mark l = l.exponents ≡ map (exponent_of l.term) (take l.mark-index l.marks)
