use Rattle.std.proofs.Common.{◌≡◌, ℕ, ◌<◌, take, get_or, pos}
use Rattle.residue.specs.Limits.{IsWeight}
use Rattle.factor_table.proofs.copies.setup_like.Given as goal

abbrev pub invariant-loop-colour : goal.invariant-loop-colour
invariant-loop-colour l = record {
  copied : l.weights.items ≡ take l.colour l.setup;
  within : (colour : ℕ) → colour < l.colour → IsWeight (get_or l.setup colour (pos 0));
}
