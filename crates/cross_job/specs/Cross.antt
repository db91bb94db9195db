-- The blocks of a range of numbers under several problems, and what a worker's part stands for.
use Rattle.std.specs.Prelude.{◌≡◌, ℕ, ◌+◌, ◌-◌, ◌*◌, ◌<◌, Bool, List, [], Option, Some, None, length, map, min, replicate, slice_index, slice_index_or, get_or, All}
use Rattle.std.specs.List.{list_any}
use Rattle.problem.specs.Problems.{view as problem_view}
use Rattle.problem.specs.Rules.{ProblemView}
use Rattle.problem.specs.Sums.{is_bad_of}
use Rattle.claim_table.specs.Counts.{nothing_bad}
use Rattle.factor_table.specs.declared.table.FactorSeat.{FactorSeat}
use Rattle.factor_table.specs.Seats.{IsSeatOf}
use Rattle.table_sum.specs.declared.sum.TableSum.{TableSum}
use Rattle.table_sum.specs.Sums.{problem_of, table_of}
use Rattle.sum_job.specs.declared.part.PartSum.{PartSum}
use Rattle.sum_job.specs.Parts.{JobView, AreReduced, IsReady, StandsFor, least_bad_among}

-- some problems with their tables, and the numbers from first to end - 1 of their trees
pub record CrossView : Type 0 where
  pub sums : List TableSum
  pub first : ℕ
  pub end : ℕ

-- the problem of a sum, as contracts see it
abbrev pub view_of : TableSum → ProblemView
view_of sum = problem_view (problem_of sum)

-- the job of one problem alone, over the same numbers
abbrev pub job_of : CrossView → TableSum → JobView
job_of v sum = record { problem = view_of sum; table = table_of sum; first = v.first; end = v.end }

-- a number is bad if it is bad for some of the problems
abbrev pub is_bad_for_some : List TableSum → ℕ → Bool
is_bad_for_some sums k = list_any (λ sum. is_bad_of (view_of sum) k) sums

-- the first number of a block ..
abbrev pub first_of_block : CrossView → ℕ → ℕ
first_of_block v block = v.first + 64 * block

-- .. and how many it has
abbrev pub size_of_block : CrossView → ℕ → ℕ
size_of_block v block = min (v.first + 64 * block + 64) v.end - (v.first + 64 * block)

-- the least number of a block that is bad for some of the problems, if there is one
abbrev pub least_bad_of : CrossView → ℕ → Option ℕ
least_bad_of v block = least_bad_among (is_bad_for_some v.sums) (first_of_block v block) (size_of_block v block)

-- the lesser of two numbers, each of which there may be or not
abbrev pub lesser : Option ℕ → Option ℕ → Option ℕ
lesser (Some x) (Some y) = Some (min x y)
lesser (Some x) None = Some x
lesser None other = other

-- two lists are equally long, and their items stand to each other in order
pub record Match {A B : Type 0} (R : A → B → Type 0) (xs : List A) (ys : List B) : Type 0 where
  pub as_many : length xs ≡ length ys
  pub each : (i : ℕ) (x : A) (y : B) → i < length ys → R (slice_index_or xs i x) (slice_index_or ys i y)

-- parts may be handed to a worker, one for each problem: the sums of each may grow, and its seat is one of the problem's
-- table
abbrev pub AreReady : CrossView → List PartSum → Type 0
AreReady v parts = Match (λ part sum. IsReady (job_of v sum) part) parts v.sums

-- Parts stand for pairs of a block and the least bad number that was seen before it, each under its own problem.
abbrev pub StandFor : CrossView → List PartSum → List (ℕ × ℕ) → Type 0
StandFor v parts pairs = Match (λ part sum. StandsFor (job_of v sum) part pairs) parts v.sums

-- seats are of the tables of the problems, in order
abbrev pub AreSeatsOf : List FactorSeat → List TableSum → Type 0
AreSeatsOf seats sums = Match (λ seat sum. IsSeatOf seat (table_of sum)) seats sums

-- parts that worked no block
abbrev pub AreFresh : List PartSum → Type 0
AreFresh parts = All (λ part. (part.sums ≡ replicate 64 0) × (part.least ≡ nothing_bad)) parts

-- the seats of parts
abbrev pub seats_of : List PartSum → List FactorSeat
seats_of parts = map (λ part. part.seat) parts

-- the sums for the problem at an index, and one of them
abbrev pub sums_in : ℕ → List PartSum → List ℕ
sums_in problem parts = get_or (map (λ part. part.sums) parts) problem []

abbrev pub sum_in : ℕ → ℕ → List PartSum → ℕ
sum_in problem place parts = slice_index (sums_in problem parts) place

-- the sums for the problem at an index are residues of this problem
pub record HasColumn (p : ProblemView) (problem : ℕ) (parts : List PartSum) : Type 0 where
  pub within : problem < length parts
  pub places : length (sums_in problem parts) ≡ 64
  pub reduced : AreReduced p (sums_in problem parts)
