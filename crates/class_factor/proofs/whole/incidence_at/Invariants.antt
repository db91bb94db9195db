use Rattle.arithmetic.specs.Numbers.{Leaves, integer_sum_below}
use Rattle.localisation.specs.ClassValue.{incidence_term}
use Rattle.class_factor.proofs.whole.incidence_at.Given as goal

abbrev pub invariant-loop-t : goal.invariant-loop-t
invariant-loop-t l = Leaves l.modulus (integer_sum_below l.t (incidence_term l.setup l.q l.i l.j)) l.sum
