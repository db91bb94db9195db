-- What is asked for comes to.
use Rattle.std.specs.Prelude.{◌≡◌, ◌⊎◌, ℕ, ◌<◌, ◌≤◌, true, List, [], ◌++◌, Option, Some, None, Ok, IsSome, IfSome}
use Rattle.trees.specs.Decorated.{DecoratedTree, is_decorated}
use Rattle.trees.specs.Texts.{tree_text}
use Rattle.trees.specs.TreeNumbers.{tree_of, number_of}
use Rattle.recover_fraction.specs.declared.recovery.Fraction.{Fraction}
use Rattle.problem.specs.Rules.{ProblemView, KeepsRules}
use Rattle.problem.specs.Sums.{count_of}
use Rattle.problem_toml.specs.Generator.{generated_problem}
use Rattle.problem_toml.specs.Reading.{reading, reading_of_any_length}
use Rattle.checkpoint.specs.States.{StateView}
use Rattle.checkpoint.specs.Texts.{text_in}
use Rattle.report.specs.Fractions.{AreFractions}
use Rattle.report.specs.Report.{done_status}
use Rattle.report.specs.Texts.{done_text, no_inverse_text}
use Rattle.rounds.specs.Outcomes.{IsProgress, IsEarly}
use Rattle.rounds.specs.declared.progress.Outcome.{Outcome}
use Rattle.rounds.specs.declared.progress.Outcome.TheVariants.{Done, Paused, NoInverse}
use Rattle.command_line.specs.Requests.{Request, run, resume, make, trees, rank, unrank}
use Rattle.tree_listing.specs.Ranges.{IsListable, ShareBlocks}
use Rattle.tree_listing.specs.Texts.{trees_text}
use Rattle.locus_core.specs.Outside.{Change, Unchanged, FilesState, StopperState, Holds, HasStopped}
use Rattle.locus_core.specs.Begins.{Beginning, Begins}
use Rattle.locus_core.specs.Texts.{number_line, tree_line}

-- Rounds were run from the beginning on, as many as the budget gives or up to the first that has a bad tree, and the
-- workers share their blocks. They ended before the budget's end only if a stop was asked for under the plan's name.
pub record RunsRounds (b : Beginning) (stopper : Change StopperState) (shares : List ℕ) (outcome : Outcome) : Type 0 where
  pub rules : KeepsRules b.sum.problem
  pub progress : IsProgress b.sum b.plan.budget b.plan.workers (record { outcome = outcome; shares = shares })
  pub stopped : IsEarly b.sum b.plan.budget outcome
      → IsSome b.plan.stop_file × IfSome b.plan.stop_file (λ name. HasStopped stopper name)
  pub kept : ¬ IsEarly b.sum b.plan.budget outcome → Unchanged stopper

-- the state of a pause
abbrev pub state_at : List ℕ → Beginning → ℕ → List ℕ → StateView
state_at source b next residues = record { source = source; problem = b.sum.problem; next = next; residues = residues }

-- The status and the text of an outcome: the sums with their fractions, the checkpoint of a pause, or the least bad tree.
pub data IsAnswer (b : Beginning) : Outcome → ℕ → List ℕ → Type 0 where
  done : (residues : List ℕ) (fractions : List (Option Fraction)) → AreFractions b.sum.problem residues fractions
      → IsAnswer b (Done residues) (done_status fractions) (b.heading ++ done_text b.sum.problem residues fractions)
  paused : (source : List ℕ) (next : ℕ) (residues : List ℕ) → b.source ≡ Some source
      → IsAnswer b (Paused next residues) 5 (text_in 2 (state_at source b next residues))
  no_inverse : (number modulus : ℕ)
      → IsAnswer b (NoInverse number modulus) 4 (b.heading ++ no_inverse_text b.sum.problem number modulus)

-- the file of a name holds a text that writes this problem, which keeps the rules
pub record HoldsProblem (files : Change FilesState) (name : List ℕ) (p : ProblemView) : Type 0 where
  pub bytes : List ℕ
  pub file : Holds files name bytes
  pub reads : reading bytes ≡ Ok p
  pub rules : KeepsRules p

-- A sum was begun, and this is its answer; or a text was made that reads as the generated problem of a number; or of the
-- decorated trees of a problem, the one with a text has this number, or the one with a number has this text, or those of a
-- range of numbers were listed on so many workers.
pub data Comes (files : Change FilesState) (stopper : Change StopperState) (shares : List ℕ) : Request → ℕ → List ℕ → Type 0 where
  summed : (request : Request) (b : Beginning) (outcome : Outcome) (status : ℕ) (text : List ℕ) → Begins files request b
      → RunsRounds b stopper shares outcome → IsAnswer b outcome status text → Comes files stopper shares request status text
  made : (number : ℕ) (text : List ℕ) → reading_of_any_length text ≡ Ok (generated_problem number) → shares ≡ []
      → Unchanged stopper → Comes files stopper shares (make number) 0 text
  ranked : (name text : List ℕ) (p : ProblemView) (g : DecoratedTree) → HoldsProblem files name p → is_decorated p.shape g ≡ true
      → text ≡ tree_text g → shares ≡ [] → Unchanged stopper
      → Comes files stopper shares (rank name text) 0 (number_line (number_of p.shape g))
  unranked : (name : List ℕ) (p : ProblemView) (number : ℕ) → HoldsProblem files name p → number < count_of p → shares ≡ []
      → Unchanged stopper → Comes files stopper shares (unrank name number) 0 (tree_line (tree_of p.shape number))
  listed : (name : List ℕ) (low high workers : ℕ) (p : ProblemView) → HoldsProblem files name p → IsListable p low high
      → ShareBlocks low high workers shares → Unchanged stopper
      → Comes files stopper shares (trees name low high workers) 0 (trees_text p low high)

-- the file that is asked for
abbrev pub file_of_request : Request → Option (List ℕ)
file_of_request (run s) = Some s.file
file_of_request (resume s) = Some s.file
file_of_request (trees name low high workers) = Some name
file_of_request (rank name text) = Some name
file_of_request (unrank name number) = Some name
file_of_request _ = None

-- the same, if it is a problem that is asked for
abbrev pub problem_file_of : Request → Option (List ℕ)
problem_file_of (run s) = Some s.file
problem_file_of (trees name low high workers) = Some name
problem_file_of (rank name text) = Some name
problem_file_of (unrank name number) = Some name
problem_file_of _ = None

-- The numbers that are asked for are not those of trees of the problem; or those of a list are none, or too many.
abbrev pub IsOutOfRange : ProblemView → Request → Type 0
IsOutOfRange p (trees name low high workers) = ¬ IsListable p low high
IsOutOfRange p (unrank name number) = count_of p ≤ number
IsOutOfRange p _ = ⊥

-- the name of the file at whose presence the sum pauses
abbrev pub stop_file_of : Request → Option (List ℕ)
stop_file_of (run s) = s.stop_file
stop_file_of (resume s) = s.stop_file
stop_file_of _ = None

-- no stop was counted, or one under the name that is asked for
abbrev pub MayHaveStopped : Request → Change StopperState → Type 0
MayHaveStopped request stopper = Unchanged stopper
    ⊎ (IsSome (stop_file_of request) × IfSome (stop_file_of request) (λ name. HasStopped stopper name))
