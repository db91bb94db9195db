use Rattle.std.proofs.Common.{◌≡◌, ◌++◌, pos, map, drop}
use Rattle.problem_toml.proofs.writing.moduli.Given as goal

abbrev pub invariant-loop-modulus : goal.invariant-loop-modulus
invariant-loop-modulus l = l.numbers.items ++ map pos (drop l.modulus-index l.moduli) ≡ map pos l.moduli
