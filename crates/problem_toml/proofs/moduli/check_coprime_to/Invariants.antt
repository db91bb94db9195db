use Rattle.std.proofs.Common.{◌≡◌, ◌+◌, drop, slice_index}
use Rattle.problem_toml.specs.Moduli.{coprime_to}
use Rattle.problem_toml.proofs.moduli.check_coprime_to.Given as goal

abbrev pub invariant-loop-second : goal.invariant-loop-second
invariant-loop-second l =
    coprime_to l.first (slice_index l.moduli l.first) l.second (drop l.second l.moduli) ≡ coprime_to l.first
    (slice_index l.moduli l.first) (l.first + 1) (drop (l.first + 1) l.moduli)
