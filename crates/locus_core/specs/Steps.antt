-- The steps of a run.
use Rattle.std.specs.Prelude.{◌≡◌, ℕ, suc, List, take, Some, Result, Ok, Err, IfSome, option_map, codes}
use Rattle.command_words.specs.Words.{AreRefusedFirst}
use Rattle.command_line.specs.Requests.{Request, Sum, resume, rank}
use Rattle.locus_io.specs.Content.{file_of}
use Rattle.problem_toml.specs.Reading.{reading}
use Rattle.problem_toml.specs.declared.error.ProblemError.{ProblemError}
use Rattle.checkpoint.specs.Refusals.{IsCheckpointRefusal}
use Rattle.checkpoint.specs.declared.error.CheckpointError.{CheckpointError}
use Rattle.rounds.specs.declared.progress.Outcome.{Outcome}
use Rattle.rounds.specs.declared.progress.Outcome.TheVariants.{Done, Paused, NoInverse}
use Rattle.problem.specs.declared.problem.Problem.{Problem}
use Rattle.problem.specs.Problems.{view as problem_view}
use Rattle.problem.specs.Rules.{ProblemView}
use Rattle.problem.specs.Sums.{count_of}
use Rattle.tree_text.specs.Refusals.{IsRefusal}
use Rattle.tree_text.specs.declared.error.TreeTextError.{TreeTextError}
use Rattle.report.specs.Report.{IsDoneReport}
use Rattle.report.specs.Texts.{no_inverse_text}
use Rattle.report.specs.Statuses.{code_of}
use Rattle.locus_core.specs.Words.{AsksFor, AskNothing}
use Rattle.locus_core.specs.Texts.{refused_line, refused_checkpoint_line, refused_tree_line, refused_range_line}
use Rattle.locus_core.specs.Outside.{Change, Unchanged, FilesState, StopperState, SinkState, Holds, HasFaultAt, TakesText, BreaksOff, Sends}
use Rattle.locus_core.specs.Begins.{Beginning}
use Rattle.locus_core.specs.Comes.{RunsRounds, IsAnswer, Comes, HoldsProblem, IsOutOfRange, file_of_request, problem_file_of, MayHaveStopped}
use Rattle.locus_core.specs.declared.work.Printable.{Printable}
use Rattle.lists.specs.declared.memory.NoMemory.{NoMemory}
use Rattle.locus_core.specs.declared.work.Refusal.{Refusal}
use Rattle.locus_core.specs.declared.work.Refusal.TheVariants as refusal

-- the bytes that are loaded of a file: at most one more than may be read
unfoldable pub loaded : ℕ → List ℕ → List ℕ
loaded most bytes = take (suc most) bytes

-- these bytes were loaded of the file of a name, if the files tell what they hold
abbrev pub Loads : ℕ → Change FilesState → List ℕ → List ℕ → Type 0
Loads most files name bytes = IfSome files.before.content (λ told. option_map (loaded most) (file_of name told) ≡ Some bytes)

-- what rounds from a beginning on come to
pub record Continues (b : Beginning) (stopper : Change StopperState) (shares : List ℕ) (status : ℕ) (text : List ℕ) : Type 0 where
  pub outcome : Outcome
  pub sums : RunsRounds b stopper shares outcome
  pub answer : IsAnswer b outcome status text

-- the outcome is no pause
abbrev pub IsNoPause : Outcome → Type 0
IsNoPause (Done residues) = Unit {0}
IsNoPause (Paused next residues) = ⊥
IsNoPause (NoInverse number modulus) = Unit {0}

-- the status and the text of an outcome that is no pause
abbrev pub IsReportOf : ProblemView → Outcome → ℕ → List ℕ → Type 0
IsReportOf p (Done residues) status text = IsDoneReport p residues status text
IsReportOf p (Paused next residues) status text = ⊥
IsReportOf p (NoInverse number modulus) status text = (status ≡ 4) × (text ≡ no_inverse_text p number modulus)

-- why nothing is printed of a request
pub data WhyNot (request : Request) (files : Change FilesState) (stopper : Change StopperState) : Refusal → Type 0 where
  read_fault : (name : List ℕ) → file_of_request request ≡ Some name → HasFaultAt files name → Unchanged stopper
      → WhyNot request files stopper refusal.ReadFault
  problem : (name bytes : List ℕ) (error : ProblemError) → problem_file_of request ≡ Some name → Holds files name bytes
      → reading bytes ≡ Err error → Unchanged files → Unchanged stopper → WhyNot request files stopper (refusal.Problem error)
  checkpoint : (s : Sum) (bytes : List ℕ) (error : CheckpointError) → request ≡ resume s → Holds files s.file bytes
      → IsCheckpointRefusal bytes error → Unchanged files → Unchanged stopper → WhyNot request files stopper (refusal.Checkpoint error)
  tree : (name text : List ℕ) (p : ProblemView) (error : TreeTextError) → request ≡ rank name text → HoldsProblem files name p
      → IsRefusal p.shape text error → Unchanged files → Unchanged stopper → WhyNot request files stopper (refusal.Tree error)
  range : (name : List ℕ) (p : ProblemView) → problem_file_of request ≡ Some name → HoldsProblem files name p
      → IsOutOfRange p request → Unchanged files → Unchanged stopper → WhyNot request files stopper (refusal.Range (count_of p))
  no_memory : Unchanged files → MayHaveStopped request stopper → WhyNot request files stopper refusal.NoMemory

-- the answer of a step that fails for want of memory alone
abbrev pub as_refusal : Result Printable NoMemory → Result Printable Refusal
as_refusal (Ok p) = Ok p
as_refusal (Err e) = Err refusal.NoMemory

-- what a request comes to, before anything is written
abbrev pub IsWork : Request → Change FilesState → Change StopperState → Result Printable Refusal → Type 0
IsWork request files stopper (Ok p) = Unchanged files × Comes files stopper p.shares request (code_of p.status) p.text.items
IsWork request files stopper (Err r) = WhyNot request files stopper r

-- the problem of a file, or why nothing is printed of a request for it
abbrev pub IsProblemOf : List ℕ → Change FilesState → Result Problem Refusal → Type 0
IsProblemOf name files (Ok p) = Unchanged files × HoldsProblem files name (problem_view p)
IsProblemOf name files (Err r) = (request : Request) (stopper : Change StopperState) → problem_file_of request ≡ Some name
    → Unchanged stopper → WhyNot request files stopper r

-- the text was written whole and its status is the answer, or status 7 tells that it was not
pub data Prints (out err : Change SinkState) (status : ℕ) (text : List ℕ) (answer : ℕ) : Type 0 where
  whole : answer ≡ status → TakesText out text → Unchanged err → Prints out err status text answer
  broken : answer ≡ 7 → BreaksOff out text → Sends err (codes "write fault\n") → Prints out err status text answer

-- a refusal is told with its status, or want of memory with status 9
pub data Refuses (err : Change SinkState) (answer : ℕ) : Refusal → Type 0 where
  read_fault : answer ≡ 6 → Sends err (codes "read fault\n") → Refuses err answer refusal.ReadFault
  problem : (error : ProblemError) → answer ≡ 3 → Sends err (refused_line error) → Refuses err answer (refusal.Problem error)
  checkpoint : (error : CheckpointError) → answer ≡ 8 → Sends err (refused_checkpoint_line error)
      → Refuses err answer (refusal.Checkpoint error)
  tree : (error : TreeTextError) → answer ≡ 11 → Sends err (refused_tree_line error) → Refuses err answer (refusal.Tree error)
  range : (count : ℕ) → answer ≡ 10 → Sends err (refused_range_line count) → Refuses err answer (refusal.Range count)
  no_memory : answer ≡ 9 → Sends err (codes "want of memory\n") → Refuses err answer refusal.NoMemory
  unheard_problem : (error : ProblemError) → answer ≡ 9 → Sends err (codes "want of memory\n")
      → Refuses err answer (refusal.Problem error)
  unheard_checkpoint : (error : CheckpointError) → answer ≡ 9 → Sends err (codes "want of memory\n")
      → Refuses err answer (refusal.Checkpoint error)
  unheard_tree : (error : TreeTextError) → answer ≡ 9 → Sends err (codes "want of memory\n") → Refuses err answer (refusal.Tree error)
  unheard_range : (count : ℕ) → answer ≡ 9 → Sends err (codes "want of memory\n") → Refuses err answer (refusal.Range count)

-- a text is told with status 2 of words that ask for nothing, or want of memory with status 9
pub data RefusesWords (words : List (List ℕ)) (err : Change SinkState) (answer : ℕ) : Type 0 where
  nothing_asked : (text : List ℕ) → answer ≡ 2 → AskNothing words → (AreRefusedFirst words → text ≡ codes "words refused\n")
      → Sends err text → RefusesWords words err answer
  unread : (request : Request) → answer ≡ 9 → AsksFor words request → Sends err (codes "want of memory\n")
      → RefusesWords words err answer
