-- How the numbers of all trees are split into ranges, one for each shard.
use Rattle.std.specs.Prelude.{◌≡◌, ℕ, ◌+◌, ◌-◌, ◌*◌, ◌/◌, ◌<◌, ◌||◌, nat_le, nat_lt, Option, Some, None, if◌then◌else◌}

-- the numbers of shard i of k, where the numbers are those below n: from i n / k on, rounded down, and below
-- (i + 1) n / k, rounded down
abbrev pub range_of : ℕ → ℕ → ℕ → ℕ × ℕ
range_of n k i = (i * n / k, (i + 1) * n / k)

-- there is no such shard if i is not below k, and no shards at all if there are more of them than numbers
unfoldable pub split_of : ℕ → ℕ → ℕ → Option (ℕ × ℕ)
split_of n k i = if nat_le k i || nat_lt n k then None else Some (range_of n k i)

-- k ranges are all numbers below n, each once: none of them is empty, the first begins at 0, each later one begins
-- where the one before it ends, and the last ends at n
pub record AreTiles (n k : ℕ) (ranges : ℕ → ℕ × ℕ) : Type 0 where
  pub some : (i : ℕ) → i < k → (ranges i).0 < (ranges i).1
  pub first : (ranges 0).0 ≡ 0
  pub next : (i : ℕ) → i + 1 < k → (ranges (i + 1)).0 ≡ (ranges i).1
  pub last : (ranges (k - 1)).1 ≡ n
