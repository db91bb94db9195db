-- Montgomery's form of residues.
use Rattle.std.specs.Prelude.{ℕ, ◌+◌, ◌*◌, ◌/◌, ◌%◌, ◌^◌}

-- t over 2^64 modulo m, if m * n leaves -1 modulo 2^64
unfoldable pub over_word : ℕ → ℕ → ℕ → ℕ
over_word m n t = (t * ((m * n + 1) / 2 ^ 64)) % m
