use Rattle.std.proofs.Common.{◌≡◌, ◌+◌, ◌*◌, ◌%◌, ◌^◌}
use Rattle.residue.proofs.montgomery.negated_inverse.Given as goal

abbrev pub invariant-loop-step : goal.invariant-loop-step
invariant-loop-step l = (l.m * l.inverse + 1) % 2 ^ 2 ^ l._step ≡ 0
