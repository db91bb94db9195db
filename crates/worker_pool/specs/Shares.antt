-- How the shares of the workers grow in a round.
use Rattle.std.specs.Prelude.{◌≡◌, ℕ, ◌+◌, ◌<◌, ◌==◌, List, length, slice_index, count_by}

-- each worker's share grew by the number of blocks that it owns
pub record GrewBy (owners before after : List ℕ) : Type 0 where
  pub workers : length after ≡ length before
  pub each : (worker : ℕ) → worker < length before
      → slice_index after worker ≡ slice_index before worker + count_by (λ owner. owner == worker) owners
