-- A fact that the declaration of the job needs: its bad numbers are below 2^64 - 1.
use Rattle.std.proofs.Common.{◌≡◌, ℕ, ◌^◌, ◌<◌, ◌≤◌, Some, arith}
use Rattle.claim_table.specs.Counts.{nothing_bad}
use Rattle.sum_job.proofs.JobLaws.{among_some_back}
use Rattle.cross_job.specs.Cross.{CrossView, is_bad_for_some, first_of_block, size_of_block, least_bad_of}

-- a bad number of a block is below the end, which is at most 2^40
pub least_below : (v : CrossView) (block bad : ℕ) → v.end ≤ 2 ^ 40 → least_bad_of v block ≡ Some bad
    → bad < nothing_bad
least_below v block bad few e =
    let least = among_some_back (is_bad_for_some v.sums) (first_of_block v block) (size_of_block v block) bad e in
    let below = least.below in
    omega arith
