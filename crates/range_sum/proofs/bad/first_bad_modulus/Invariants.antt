use Rattle.std.proofs.Common.{◌≢◌, ◌<◌, ℕ, true, slice_index}
use Rattle.problem.specs.Problems.{view}
use Rattle.problem.specs.Sums.{is_bad_modulo}
use Rattle.range_sum.proofs.bad.first_bad_modulus.Given as goal

abbrev pub invariant-loop-modulus : goal.invariant-loop-modulus
invariant-loop-modulus l =
    (j : ℕ) → j < l.modulus → is_bad_modulo (view l.problem) l.k (slice_index l.problem.moduli j) ≢ true
