use Rattle.std.proofs.Common.{◌≡◌, ◌≤◌, ◌<◌, ◌+◌, ◌-◌, ℕ}
use Rattle.table_sum.specs.Sums.{KnowsTrees}
use Rattle.sum_job.specs.Parts.{block_start, block_stop}
use Rattle.sum_job.proofs.PartLaws.{at_same}
use Rattle.list_job.specs.Entries.{HasEntryOf}
use Rattle.list_job.specs.Parts.{entry_at}
use Rattle.list_job.specs.Jobs.{view}
use Rattle.list_job.proofs.PartLaws.{filled_more}
use Rattle.list_job.proofs.job.work.ListJobJob.work.Goals as goal

pub returns-clause-stands : goal.returns-clause-stands
returns-clause-stands c =
    let job = view c.args.self.now in
    let old = c.args.part.now in
    let new = c.fill_block.new.part in
    let b = c.bounds-start in
    let block = c.args.block.number in
    let done = c.fill_block.ensures in
    filled_more job old new block c.args._seen
    (at_same (λ x y. (k : ℕ) → x ≤ k → k < y → HasEntryOf job.problem k (entry_at new (k - job.first)))
    b.result.0 b.result.1 (block_start job block) (block_stop job block) b.ensures.start b.ensures.stop done.filled)
    (at_same (λ x y. (place : ℕ) → job.first + place < x → entry_at new place ≡ entry_at old place)
    b.result.0 b.result.1 (block_start job block) (block_stop job block) b.ensures.start b.ensures.stop done.below)
    (at_same (λ x y. (place : ℕ) → y ≤ job.first + place → entry_at new place ≡ entry_at old place)
    b.result.0 b.result.1 (block_start job block) (block_stop job block) b.ensures.start b.ensures.stop done.above)
    done.seat
    (at_same (KnowsTrees job.problem job.table new.seat)
    b.result.0 b.result.1 (block_start job block) (block_stop job block) b.ensures.start b.ensures.stop done.edges)
