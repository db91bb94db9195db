use Rattle.std.proofs.Common.{◌≡◌, drop}
use Rattle.problem_toml.specs.Moduli.{coprime_from}
use Rattle.problem_toml.proofs.moduli.check_coprime.Given as goal

abbrev pub invariant-loop-first : goal.invariant-loop-first
invariant-loop-first l = coprime_from l.first (drop l.first l.moduli) ≡ coprime_from 0 l.moduli
