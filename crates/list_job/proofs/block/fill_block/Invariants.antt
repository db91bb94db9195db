use Rattle.std.proofs.Common.{◌≡◌, ◌≤◌, ◌<◌, ℕ, ◌+◌, ◌-◌}
use Rattle.problem.specs.Problems.{view}
use Rattle.table_sum.specs.Words.{IsLater}
use Rattle.table_sum.specs.Sums.{problem_of, table_of, KnowsTrees}
use Rattle.list_job.specs.Entries.{HasEntryOf}
use Rattle.list_job.specs.Parts.{room_of, entry_at}
use Rattle.list_job.proofs.block.fill_block.Given as goal

abbrev pub invariant-loop-k : goal.invariant-loop-k
invariant-loop-k l = record {
  from : l.start ≤ l.k;
  room : room_of l.part ≡ room_of l.fn.part;
  filled : (j : ℕ) → l.start ≤ j → j < l.k
      → HasEntryOf (view (problem_of l.sum)) j (entry_at l.part (j - l.first));
  below : (place : ℕ) → l.first + place < l.start → entry_at l.part place ≡ entry_at l.fn.part place;
  above : (place : ℕ) → l.k ≤ l.first + place → entry_at l.part place ≡ entry_at l.fn.part place;
  seat : IsLater (table_of l.sum) l.fn.part.seat l.part.seat;
  edges : KnowsTrees (view (problem_of l.sum)) (table_of l.sum) l.part.seat l.start l.k;
}
