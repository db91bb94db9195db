-- Facts that the declaration of the job needs: its bad numbers are below 2^64 - 1.
use Rattle.std.proofs.Common.{◌≡◌, ℕ, zero, suc, ◌+◌, ◌-◌, ◌^◌, ◌<◌, ◌≤◌, Bool, true, false, if◌then◌else◌, Some, arith}
use Rattle.problem.specs.Sums.{count_of, is_bad_of}
use Rattle.claim_table.specs.Counts.{nothing_bad}
use Rattle.sum_job.specs.Parts.{JobView, block_start, block_stop, least_bad_among, least_bad_of}

among_within : (bad : ℕ → Bool) (lo n k : ℕ) → least_bad_among bad lo n ≡ Some k → (lo ≤ k) × (k < lo + n)
unfolding least_bad_among
among_within bad lo zero k e = cc
among_within bad lo (suc n) k e = cases (bad lo) e (λ f. among_within bad (lo + 1) n k f)
  where
    cases : (b : Bool) → (if b then Some lo else least_bad_among bad (lo + 1) n) ≡ Some k
        → (least_bad_among bad (lo + 1) n ≡ Some k → (lo + 1 ≤ k) × (k < lo + 1 + n)) → (lo ≤ k) × (k < lo + suc n)
    cases true f rest = let same : lo ≡ k = cc in (omega arith, omega arith)
    cases false f rest = let tail = rest f in let from = tail.0 in let below = tail.1 in (omega arith, omega arith)

-- a bad number of a block is the number of a tree, and there are at most 2^40
pub least_below : (job : JobView) (block bad : ℕ) → job.end ≤ count_of job.problem → count_of job.problem ≤ 2 ^ 40
    → least_bad_of job block ≡ Some bad
    → bad < nothing_bad
least_below job block bad within few e =
    let both =
    among_within (is_bad_of job.problem) (block_start job block)
    (block_stop job block - block_start job block) bad e in
    let from = both.0 in
    let below = both.1 in
    omega arith
