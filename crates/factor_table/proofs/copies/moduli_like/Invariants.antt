use Rattle.std.proofs.Common.{◌≡◌, ℕ, ◌<◌, ◌^◌, take, get_or}
use Rattle.factor_table.proofs.copies.moduli_like.Given as goal

abbrev pub invariant-loop-index : goal.invariant-loop-index
invariant-loop-index l = record {
  copied : l.copies.items ≡ take l.index l.moduli;
  limited : (index : ℕ) → index < l.index → get_or l.moduli index 0 < 2 ^ 62;
}
