use Rattle.std.proofs.Common.{◌≡◌, take}
use Rattle.problem_toml.proofs.writing.weights.Given as goal

abbrev pub invariant-loop-colour : goal.invariant-loop-colour
invariant-loop-colour l = l.weights.items ≡ take l.colour l.setup
