-- How a run ends.
use Rattle.std.specs.Prelude.{◌≡◌, ℕ, List, [], Some, Err, codes}
use Rattle.problem.specs.Rules.{ProblemView}
use Rattle.problem.specs.Sums.{count_of}
use Rattle.problem_toml.specs.Reading.{reading}
use Rattle.problem_toml.specs.declared.error.ProblemError.{ProblemError}
use Rattle.checkpoint.specs.Refusals.{IsCheckpointRefusal}
use Rattle.checkpoint.specs.declared.error.CheckpointError.{CheckpointError}
use Rattle.tree_text.specs.Refusals.{IsRefusal}
use Rattle.tree_text.specs.declared.error.TreeTextError.{TreeTextError}
use Rattle.command_words.specs.Words.{AreRefusedFirst}
use Rattle.command_line.specs.Requests.{Request, Sum, resume, rank}
use Rattle.locus_core.specs.Words.{AsksFor, AskNothing}
use Rattle.locus_core.specs.Texts.{refused_line, refused_checkpoint_line, refused_tree_line, refused_range_line}
use Rattle.locus_core.specs.Outside.{Change, Unchanged, FilesState, StopperState, SinkState, Holds, HasFaultAt, TakesText, BreaksOff, Sends}
use Rattle.locus_core.specs.Comes.{Comes, HoldsProblem, IsOutOfRange, file_of_request, problem_file_of, MayHaveStopped}

-- A run as it is seen from outside: its words, its files, the output, standard error and the stopper, and how many blocks
-- each worker worked.
pub record Run : Type 0 where
  pub words : List (List ℕ)
  pub files : Change FilesState
  pub out : Change SinkState
  pub err : Change SinkState
  pub stopper : Change StopperState
  pub shares : List ℕ

-- a run, from what its objects tell of themselves before and after it
abbrev pub run_of : List (List ℕ) → Change FilesState → Change SinkState → Change SinkState → Change StopperState → List ℕ → Run
run_of words files out err stopper shares =
    record { words = words; files = files; out = out; err = err; stopper = stopper; shares = shares }

-- nothing was printed, nobody asked for a stop, and there are no shares
pub record IsIdle (r : Run) : Type 0 where
  pub out : Unchanged r.out
  pub stopper : Unchanged r.stopper
  pub shares : r.shares ≡ []

-- What the words ask for came to this text, which was printed whole.
pub record Printed (r : Run) (status : ℕ) : Type 0 where
  pub request : Request
  pub text : List ℕ
  pub words : AsksFor r.words request
  pub comes : Comes r.files r.stopper r.shares request status text
  pub files : Unchanged r.files
  pub out : TakesText r.out text
  pub err : Unchanged r.err

-- The words ask for nothing. A text is written, which is `words refused` if a word is refused at the first look.
pub record WordsRefused (r : Run) : Type 0 where
  pub words : AskNothing r.words
  pub text : List ℕ
  pub first_look : AreRefusedFirst r.words → text ≡ codes "words refused\n"
  pub files : Unchanged r.files
  pub idle : IsIdle r
  pub err : Sends r.err text

-- The file of a problem was read, and its bytes write none. The line names the first rule that they break.
pub record ProblemRefused (r : Run) : Type 0 where
  pub request : Request
  pub name : List ℕ
  pub bytes : List ℕ
  pub error : ProblemError
  pub words : AsksFor r.words request
  pub asked : problem_file_of request ≡ Some name
  pub file : Holds r.files name bytes
  pub refused : reading bytes ≡ Err error
  pub files : Unchanged r.files
  pub idle : IsIdle r
  pub err : Sends r.err (refused_line error)

-- The file of a paused sum was read, and its bytes are the text of no state. The line names their first
-- refusal.
pub record CheckpointRefused (r : Run) : Type 0 where
  pub sum : Sum
  pub bytes : List ℕ
  pub error : CheckpointError
  pub words : AsksFor r.words (resume sum)
  pub file : Holds r.files sum.file bytes
  pub refused : IsCheckpointRefusal bytes error
  pub files : Unchanged r.files
  pub idle : IsIdle r
  pub err : Sends r.err (refused_checkpoint_line error)

-- The file was read, and the numbers are not those of decorated trees of its problem, or too many are to be listed, or none.
-- The line names the number of the trees.
pub record RangeRefused (r : Run) : Type 0 where
  pub request : Request
  pub name : List ℕ
  pub problem : ProblemView
  pub words : AsksFor r.words request
  pub asked : problem_file_of request ≡ Some name
  pub file : HoldsProblem r.files name problem
  pub out_of_range : IsOutOfRange problem request
  pub files : Unchanged r.files
  pub idle : IsIdle r
  pub err : Sends r.err (refused_range_line (count_of problem))

-- The file was read, and the text is that of no decorated tree of its problem. The line says why.
pub record TreeRefused (r : Run) : Type 0 where
  pub name : List ℕ
  pub text : List ℕ
  pub problem : ProblemView
  pub error : TreeTextError
  pub words : AsksFor r.words (rank name text)
  pub file : HoldsProblem r.files name problem
  pub refused : IsRefusal problem.shape text error
  pub files : Unchanged r.files
  pub idle : IsIdle r
  pub err : Sends r.err (refused_tree_line error)

-- A load of the file that is asked for failed: the files counted a fault at its name.
pub record ReadFault (r : Run) : Type 0 where
  pub request : Request
  pub name : List ℕ
  pub words : AsksFor r.words request
  pub asked : file_of_request request ≡ Some name
  pub files : HasFaultAt r.files name
  pub idle : IsIdle r
  pub err : Sends r.err (codes "read fault\n")

-- The output did not take the whole text of what the words ask for: it counted a fault.
pub record WriteFault (r : Run) : Type 0 where
  pub request : Request
  pub status : ℕ
  pub text : List ℕ
  pub words : AsksFor r.words request
  pub comes : Comes r.files r.stopper r.shares request status text
  pub files : Unchanged r.files
  pub out : BreaksOff r.out text
  pub err : Sends r.err (codes "write fault\n")

-- Memory was refused. Nothing says when this comes, but that the words ask for something and that nothing is printed.
pub record WantOfMemory (r : Run) : Type 0 where
  pub request : Request
  pub words : AsksFor r.words request
  pub files : Unchanged r.files
  pub stopper : MayHaveStopped request r.stopper
  pub out : Unchanged r.out
  pub shares : r.shares ≡ []
  pub err : Sends r.err (codes "want of memory\n")

-- A run ends in one of these ways, and its status says in which.
pub data Ends (r : Run) (status : ℕ) : Type 0 where
  printed : Printed r status → Ends r status
  words_refused : status ≡ 2 → WordsRefused r → Ends r status
  problem_refused : status ≡ 3 → ProblemRefused r → Ends r status
  read_fault : status ≡ 6 → ReadFault r → Ends r status
  write_fault : status ≡ 7 → WriteFault r → Ends r status
  checkpoint_refused : status ≡ 8 → CheckpointRefused r → Ends r status
  want_of_memory : status ≡ 9 → WantOfMemory r → Ends r status
  range_refused : status ≡ 10 → RangeRefused r → Ends r status
  tree_refused : status ≡ 11 → TreeRefused r → Ends r status
