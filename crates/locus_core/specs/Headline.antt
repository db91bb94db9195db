-- What the statuses of a run say, and which of them must come.
use Rattle.std.specs.Prelude.{◌≡◌, ◌≢◌, ◌⊎◌, ◌↔◌, ℕ, ◌<◌, ◌≤◌, List, [], ◌++◌, Option, Some, None, Ok, IsErr, IsSome, IfSome, true}
use Rattle.recover_fraction.specs.declared.recovery.Fraction.{Fraction}
use Rattle.localisation.specs.Agreement.{NoneBad, IsLeastBad, IsFirstBad}
use Rattle.locus_io.specs.Causes.{Rose}
use Rattle.locus_io.specs.Content.{NamedFiles, file_of}
use Rattle.problem.specs.Rules.{ProblemView}
use Rattle.problem.specs.Sums.{count_of, is_bad_of, is_bad_modulo, HasBadTree, AreKontsevichSums}
use Rattle.problem_toml.specs.Reading.{reading, reading_of_any_length}
use Rattle.problem_toml.specs.Generator.{generated_problem}
use Rattle.report.specs.Outcome.{LacksInverse}
use Rattle.report.specs.Fractions.{AreFractions, FindSums}
use Rattle.report.specs.Report.{done_status}
use Rattle.report.specs.Texts.{done_text, no_inverse_text}
use Rattle.checkpoint.specs.States.{StateView, IsState, IsTrueState}
use Rattle.checkpoint.specs.Texts.{IsTextOf, text_in}
use Rattle.rounds.specs.Outcomes.{IsSummed, IsPaused, IsProgress}
use Rattle.rounds.specs.declared.progress.Outcome.{Outcome}
use Rattle.rounds.specs.Rounds.{budget_end}
use Rattle.command_line.specs.Requests.{Request, Sum, resume, make, trees, rank, unrank}
use Rattle.tree_listing.specs.Ranges.{ShareBlocks}
use Rattle.locus_core.specs.Words.{AsksFor}
use Rattle.locus_core.specs.Outside.{Unchanged, HasStopped, TakesText, BreaksOff}
use Rattle.locus_core.specs.Begins.{Beginning, Begins, IsTrueBeginning}
use Rattle.locus_core.specs.Comes.{IsAnswer, file_of_request, problem_file_of, stop_file_of, state_at}
use Rattle.locus_core.specs.Ends.{Run, Printed, WordsRefused, ProblemRefused, CheckpointRefused, ReadFault, WriteFault, WantOfMemory, RangeRefused, TreeRefused}

-- done, with a fraction for each integral or without one for some integral
abbrev pub IsDoneStatus : ℕ → Type 0
IsDoneStatus n = (n ≡ 0) ⊎ (n ≡ 1)

-- the whole text that is asked for is printed: it is done, no inverse, or paused
abbrev pub IsPrintedStatus : ℕ → Type 0
IsPrintedStatus n = IsDoneStatus n ⊎ (n ≡ 4) ⊎ (n ≡ 5)

-- the statuses that there are
abbrev pub IsStatus : ℕ → Type 0
IsStatus n = IsPrintedStatus n ⊎ (n ≡ 2) ⊎ (n ≡ 3) ⊎ (n ≡ 6) ⊎ (n ≡ 7) ⊎ (n ≡ 8) ⊎ (n ≡ 9) ⊎ (n ≡ 10) ⊎ (n ≡ 11)

-- The file of a name holds these bytes, and the words ask for this.
pub record AsksOf (r : Run) (told : NamedFiles) (request : Request) (bytes : List ℕ) : Type 0 where
  pub words : AsksFor r.words request
  pub name : List ℕ
  pub asked : file_of_request request ≡ Some name
  pub file : file_of name told ≡ Some bytes

-- the bytes are the text of no state
abbrev pub IsNoCheckpoint : List ℕ → Type 0
IsNoCheckpoint bytes = (state : StateView) → IsState state → ¬ IsTextOf state bytes

-- If the file was read, and memory was not refused: where a problem is asked for, of `run`, `trees`, `rank` and `unrank`, the
-- bytes decide whether they are refused, and so do those of a `resume`.
abbrev pub Accepts : Run → ℕ → Type 0
Accepts r n = IfSome r.files.before.content (λ told. (request : Request) (s : Sum) (bytes : List ℕ) → n ≢ 6 → n ≢ 9
    → (IsSome (problem_file_of request) → AsksOf r told request bytes → ((n ≡ 3) ↔ IsErr (reading bytes)))
    × (AsksOf r told (resume s) bytes → ((n ≡ 8) ↔ IsNoCheckpoint bytes)))

-- The file that is asked for is not there: a read fault, but for want of memory.
abbrev pub NeedsItsFile : Run → ℕ → Type 0
NeedsItsFile r n = IfSome r.files.before.content (λ told. (request : Request) (name : List ℕ) → AsksFor r.words request
    → file_of_request request ≡ Some name → file_of name told ≡ None → (n ≡ 6) ⊎ (n ≡ 9))

-- some number from next on, below an end, is bad
abbrev pub HasBadNumber : ProblemView → ℕ → ℕ → Type 0
HasBadNumber p next end = (number : ℕ) × (next ≤ number) × (number < end) × (is_bad_of p number ≡ true)

-- where the budget of a sum ends
abbrev pub end_of : Beginning → ℕ
end_of b = budget_end (count_of b.sum.problem) b.sum.next b.plan.budget

-- The status of a sum that nobody stops: 4 if a number within the budget is bad; otherwise 5 if trees are left, and 0 or 1
-- if none is.
abbrev pub IsStatusOf : Beginning → ℕ → Type 0
IsStatusOf b n = ((n ≡ 4) × HasBadNumber b.sum.problem b.sum.next (end_of b))
    ⊎ (NoneBad (is_bad_of b.sum.problem) b.sum.next (end_of b)
    × (((n ≡ 5) × (end_of b < count_of b.sum.problem)) ⊎ (IsDoneStatus n × (end_of b ≡ count_of b.sum.problem))))

-- the files tell what they hold, or none is asked for
abbrev pub KnowsItsFile : Run → Request → Type 0
KnowsItsFile r request = IsSome r.files.before.content ⊎ (file_of_request request ≡ None)

-- Of a sum that is begun anew, or with true residues: if it is done or has no inverse (status 0, 1 or 4), some decorated
-- tree is bad exactly if the status is 4.
abbrev pub NamesBadTrees : Run → ℕ → Type 0
NamesBadTrees r n = IsDoneStatus n ⊎ (n ≡ 4) → (request : Request) (b : Beginning) → AsksFor r.words request
    → KnowsItsFile r request → Begins r.files request b → IsTrueBeginning b → ((n ≡ 4) ↔ HasBadTree b.sum.problem)

-- A sum that is begun, if neither the files nor the output count a fault and nobody asks for a stop, has the status that
-- its numbers within the budget give it, but for want of memory.
abbrev pub IsDecided : Run → ℕ → Type 0
IsDecided r n = ¬ Rose r.files.before.faults r.files.after.faults → ¬ Rose r.out.before.faults r.out.after.faults
    → ¬ Rose r.stopper.before.stops r.stopper.after.stops
    → (request : Request) (b : Beginning) → AsksFor r.words request → KnowsItsFile r request → Begins r.files request b
    → IsStatusOf b n ⊎ (n ≡ 9)

-- a text was printed that reads as the generated problem of the number
pub record Makes (r : Run) (number : ℕ) : Type 0 where
  pub text : List ℕ
  pub reads : reading_of_any_length text ≡ Ok (generated_problem number)
  pub out : TakesText r.out text

-- `make` prints its problem, or the output counted a fault, or memory was refused
abbrev pub MakesProblem : Run → ℕ → Type 0
MakesProblem r n = (number : ℕ) → AsksFor r.words (make number)
    → ((n ≡ 0) × Makes r number) ⊎ ((n ≡ 7) × Rose r.out.before.faults r.out.after.faults) ⊎ (n ≡ 9)

-- the words name a stop file, and a stop was counted under its name
pub record HasStopFile (r : Run) : Type 0 where
  pub request : Request
  pub words : AsksFor r.words request
  pub name : List ℕ
  pub named : stop_file_of request ≡ Some name
  pub stopped : HasStopped r.stopper name

-- Either nobody asked for a stop, or one was asked for under the name of the stop file. Then the sum pauses there: status 5
-- comes, unless the checkpoint is not taken whole or memory is refused.
abbrev pub HeedsStops : Run → ℕ → Type 0
HeedsStops r n = Unchanged r.stopper ⊎ (HasStopFile r × ((n ≡ 5) ⊎ (n ≡ 7) ⊎ (n ≡ 9)))

-- ---- what was printed
-- a sum was begun that the words ask for
pub record HasBegun (r : Run) (b : Beginning) : Type 0 where
  pub request : Request
  pub words : AsksFor r.words request
  pub begins : Begins r.files request b

-- The residues that the sum began with, plus those of all numbers from its first on, were printed, and for each integral
-- the only fraction within the bounds that agrees with them, or that there is none. If no tree was summed before, or the residues so far were true,
-- no decorated tree is bad, the residues are those of Kontsevich's sums over all decorated trees, and a fraction within
-- the bounds is the sum.
pub record PrintsSums (r : Run) (n : ℕ) : Type 0 where
  pub beginning : Beginning
  pub residues : List ℕ
  pub fractions : List (Option Fraction)
  pub begun : HasBegun r beginning
  pub summed : IsSummed beginning.sum (count_of beginning.sum.problem) residues
  pub agree : AreFractions beginning.sum.problem residues fractions
  pub status : n ≡ done_status fractions
  pub none_bad : IsTrueBeginning beginning → ¬ HasBadTree beginning.sum.problem
  pub truth : IsTrueBeginning beginning → AreKontsevichSums beginning.sum.problem residues
  pub found : IsTrueBeginning beginning → FindSums beginning.sum.problem fractions
  pub stopper : Unchanged r.stopper
  pub out : TakesText r.out (beginning.heading ++ done_text beginning.sum.problem residues fractions)

-- the words ask for the text of a generated problem
abbrev pub IsMaking : Run → Type 0
IsMaking r = (number : ℕ) × AsksFor r.words (make number)

-- they ask for the number of a tree
abbrev pub IsRanking : Run → Type 0
IsRanking r = (name text : List ℕ) × AsksFor r.words (rank name text)

-- they ask for the tree of a number
abbrev pub IsUnranking : Run → Type 0
IsUnranking r = (name : List ℕ) × (number : ℕ) × AsksFor r.words (unrank name number)

-- they ask for a list of trees
abbrev pub IsListing : Run → Type 0
IsListing r = (name : List ℕ) × (low high workers : ℕ) × AsksFor r.words (trees name low high workers)

-- they ask for what needs no workers: for `make`, `rank` or `unrank`
abbrev pub NeedsNoWorkers : Run → Type 0
NeedsNoWorkers r = IsMaking r ⊎ IsRanking r ⊎ IsUnranking r

-- they ask for no sum: for `trees`, or for what needs no workers
abbrev pub SumsNothing : Run → Type 0
SumsNothing r = IsListing r ⊎ NeedsNoWorkers r

-- what a done sum has printed
abbrev pub PrintsItsSums : Run → ℕ → Type 0
PrintsItsSums r n = ¬ SumsNothing r → IsDoneStatus n → PrintsSums r n

-- The least bad number from the first on was printed, with the first modulus for which it is bad and its tree. If no tree
-- was summed before, or the residues so far were true, no decorated tree that is bad has a smaller number.
pub record NamesLeast (r : Run) : Type 0 where
  pub beginning : Beginning
  pub number : ℕ
  pub index : ℕ
  pub begun : HasBegun r beginning
  pub least : IsLeastBad (is_bad_of beginning.sum.problem) beginning.sum.next (count_of beginning.sum.problem) number
  pub first : IsFirstBad (is_bad_modulo beginning.sum.problem number) beginning.sum.problem.moduli index
  pub of_all : IsTrueBeginning beginning → LacksInverse beginning.sum.problem number index
  pub stopper : Unchanged r.stopper
  pub out : TakesText r.out (beginning.heading ++ no_inverse_text beginning.sum.problem number index)

-- A checkpoint was printed, and nothing else: the text of a state of the same source, whose residues grew by those of
-- exactly the numbers before its next one. True residues stay true. It stands after some rounds, where the budget ends, or
-- where a stop was asked for under the name of the stop file.
pub record PrintsCheckpoint (r : Run) : Type 0 where
  pub beginning : Beginning
  pub source : List ℕ
  pub rounds : ℕ
  pub next : ℕ
  pub residues : List ℕ
  pub begun : HasBegun r beginning
  pub same_source : beginning.source ≡ Some source
  pub state : IsState (state_at source beginning next residues)
  pub paused : IsPaused beginning.sum beginning.plan.budget rounds next residues
  pub truth : IsTrueBeginning beginning → IsTrueState (state_at source beginning next residues)
  pub cause : ((next ≡ end_of beginning) × Unchanged r.stopper)
      ⊎ ((next < end_of beginning) × IsSome beginning.plan.stop_file
      × IfSome beginning.plan.stop_file (λ name. HasStopped r.stopper name))
  pub out : TakesText r.out (text_in 2 (state_at source beginning next residues))

-- The rounds that were run have an outcome, whose text was printed, or a prefix of it at status 7. Each worker has a share,
-- and the shares add up to the blocks of these rounds.
pub record SharesBlocks (r : Run) (n : ℕ) : Type 0 where
  pub beginning : Beginning
  pub outcome : Outcome
  pub status : ℕ
  pub text : List ℕ
  pub begun : HasBegun r beginning
  pub progress : IsProgress beginning.sum beginning.plan.budget beginning.plan.workers (record { outcome = outcome; shares = r.shares })
  pub answer : IsAnswer beginning outcome status text
  pub out : ((n ≡ status) × TakesText r.out text) ⊎ ((n ≡ 7) × BreaksOff r.out text)

-- nothing goes to the output
abbrev pub IsSilentStatus : ℕ → Type 0
IsSilentStatus n = (n ≡ 2) ⊎ (n ≡ 3) ⊎ (n ≡ 6) ⊎ (n ≡ 8) ⊎ (n ≡ 9) ⊎ (n ≡ 10) ⊎ (n ≡ 11)

-- A list of trees was printed, or a prefix of it at status 7. Each worker has a share, and the shares add up to the blocks of
-- its numbers.
pub record SharesList (r : Run) (n : ℕ) : Type 0 where
  pub name : List ℕ
  pub low : ℕ
  pub high : ℕ
  pub workers : ℕ
  pub words : AsksFor r.words (trees name low high workers)
  pub shares : ShareBlocks low high workers r.shares
  pub status : (n ≡ 0) ⊎ (n ≡ 7)

-- Of a sum or a list that was printed, or of which a prefix was, the shares are those of its blocks; otherwise there are none.
abbrev pub ClaimsBlocks : Run → ℕ → Type 0
ClaimsBlocks r n = (NeedsNoWorkers r ⊎ SharesBlocks r n ⊎ SharesList r n ⊎ IsSilentStatus n)
    × (NeedsNoWorkers r ⊎ IsSilentStatus n → r.shares ≡ [])

-- What was written, and where, for each status. Nothing goes to the output at the statuses that print no text, and the
-- files count a fault at status 6 alone.
pub record WritesBytes (r : Run) (n : ℕ) : Type 0 where
  pub printed : IsPrintedStatus n → Printed r n
  pub words_refused : n ≡ 2 → WordsRefused r
  pub problem_refused : n ≡ 3 → ProblemRefused r
  pub read_fault : n ≡ 6 → ReadFault r
  pub write_fault : n ≡ 7 → WriteFault r
  pub checkpoint_refused : n ≡ 8 → CheckpointRefused r
  pub want_of_memory : n ≡ 9 → WantOfMemory r
  pub range_refused : n ≡ 10 → RangeRefused r
  pub tree_refused : n ≡ 11 → TreeRefused r
  pub silent : IsSilentStatus n → Unchanged r.out
  pub served : n ≢ 6 → Unchanged r.files
