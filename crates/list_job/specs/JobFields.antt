-- A fact that the declaration of the job needs: no number is bad, so each bad number is below 2^64 - 1.
use Rattle.std.proofs.Common.{◌≡◌, ℕ, ◌<◌, None, Some}
use Rattle.claim_table.specs.Counts.{nothing_bad}

pub none_below : (bad : ℕ) → None ≡ Some bad → bad < nothing_bad
none_below bad e = absurd (apart e)
  where
    apart : {x : ℕ} → None ≡ Some x → ⊥
    apart p = cc
