-- The rounds in which the numbers from a first one on are summed, and the numbers of their blocks.
use Rattle.std.specs.Prelude.{ℕ, suc, ◌+◌, ◌*◌, ◌<◌, min}
use Rattle.claim_table.specs.Counts.{sum_below}
use Rattle.sum_job.specs.Parts.{block_count}

-- where a call that may sum so many trees from next on ends at the latest: at the last tree, or when the budget is used
-- up
abbrev pub budget_end : ℕ → ℕ → ℕ → ℕ
budget_end count next budget = min count (next + budget)

-- how far the first k rounds reach: each has 65,536 numbers, but for the last, which may have fewer
abbrev pub reached : ℕ → ℕ → ℕ → ℕ
reached next end k = min (next + 65536 * k) end

-- the blocks of a round, which is counted from 0, and of the first k rounds
abbrev pub blocks_of_round : ℕ → ℕ → ℕ → ℕ
blocks_of_round next end k = block_count (reached next end k) (reached next end (suc k))

abbrev pub blocks_of_rounds : ℕ → ℕ → ℕ → ℕ
blocks_of_rounds next end k = sum_below k (blocks_of_round next end)

-- each of the first k rounds has a number
abbrev pub AreRounds : ℕ → ℕ → ℕ → Type 0
AreRounds next end k = (round : ℕ) → round < k → reached next end round < end
