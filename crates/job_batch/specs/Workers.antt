-- The workers of a batch.
use Rattle.std.specs.Prelude.{◌≡◌, ℕ, ◌<◌, ◌≤◌, List, [], ◌∷◌, length, map, slice_index_or, vec_capacity, All}
use Rattle.lists.specs.Ranges.{below}
use Rattle.checkpoint.specs.States.{StateView}
use Rattle.factor_table.specs.declared.table.FactorTable.{FactorTable}
use Rattle.factor_table.specs.Seats.{IsSeatOf}
use Rattle.table_sum.specs.Problems.{IsTableOf}
use Rattle.sum_job.specs.declared.part.PartSum.{PartSum}
use Rattle.job_batch.specs.declared.rule.Hand.{Hand}
use Rattle.job_batch.specs.Batch.{Answered}
use Rattle.job_batch.specs.Seats.{owner_hand, thief_hand, SameDeque, SameStealer}
use Rattle.job_batch.specs.Ends.{IsFresh, IsJobEnd}
use Rattle.job_batch.specs.declared.job.EndedJob.{EndedJob}
use Rattle.job_batch.specs.declared.worker.Seat.{Seat}
use Rattle.job_batch.specs.declared.worker.Seat.TheVariants.{Owner, Thief}
use Rattle.job_batch.specs.declared.worker.BatchWorker.{BatchWorker}

-- what a worker knows at its seat
abbrev pub seat_hand : Seat → Hand
seat_hand (Owner s) = owner_hand s
seat_hand (Thief s) = thief_hand s

-- a seat stays at its deque, and worker 0's stays worker 0's
abbrev pub SameSeat : Seat → Seat → Type 0
SameSeat (Owner s) (Owner t) = SameDeque s t
SameSeat (Thief s) (Thief t) = SameStealer s t
SameSeat s t = ⊥

-- each job has a table of its problem
pub record AreJobs (states : List StateView) (tables : List FactorTable) : Type 0 where
  pub many : length states ≤ 16
  pub one_each : length tables ≡ length states
  pub fresh : All IsFresh states
  pub of_problem : (place : ℕ) (s : StateView) (t : FactorTable) → place < length states
      → IsTableOf (slice_index_or states place s).problem (slice_index_or tables place t)

-- A worker has a seat at the deque of all jobs and at the table of each job, and room to note all jobs. It noted the
-- jobs that it was answered, in this order, each with its end.
pub record IsAtWorkWith (states : List StateView) (tables : List FactorTable) (h : Hand) (w : BatchWorker) : Type 0 where
  pub seated : 0 < h.seats
  pub pushed : h.pushed ≡ below (length states)
  pub answers : h.answers ≡ map (λ job. job.place) w.ended.items
  pub ends : All (λ job. (s : StateView) → IsJobEnd (slice_index_or states job.place s) job.bad job.sums) w.ended.items
  pub places : All (λ job. job.place < length states) w.ended.items
  pub room : length states ≤ vec_capacity w.ended
  pub parts : length w.parts.items ≡ length states
  pub seats : (place : ℕ) (p : PartSum) (t : FactorTable) → place < length states
      → IsSeatOf (slice_index_or w.parts.items place p).seat (slice_index_or tables place t)

abbrev pub IsAtWork : List StateView → List FactorTable → BatchWorker → Type 0
IsAtWork states tables w = IsAtWorkWith states tables (seat_hand w.seat) w

-- A worker was at work and was answered a place, whose job it has yet to run.
pub record IsAnswered (states : List StateView) (tables : List FactorTable) (w : BatchWorker) (place : ℕ) : Type 0 where
  pub before : Hand
  pub seat : Answered before (place ∷ []) (seat_hand w.seat)
  pub at_work : IsAtWorkWith states tables before w

-- a worker keeps its number and its seat
abbrev pub SameWorker : BatchWorker → BatchWorker → Type 0
SameWorker old new = (new.number ≡ old.number) × SameSeat old.seat new.seat
