-- How a sum begins.
use Rattle.std.specs.Prelude.{◌≡◌, ◌⊎◌, ℕ, ◌^◌, List, [], ◌++◌, replicate, Option, Some, None, Ok, codes, decimal}
use Rattle.problem.specs.Rules.{ProblemView}
use Rattle.problem.specs.Sums.{places_of}
use Rattle.problem_toml.specs.Generator.{generated_problem}
use Rattle.problem_toml.specs.Reading.{reading}
use Rattle.checkpoint.specs.States.{StateView, IsState}
use Rattle.checkpoint.specs.Texts.{IsTextOf}
use Rattle.rounds.specs.Outcomes.{SumView, sum_of, IsTrueSum}
use Rattle.command_line.specs.Requests.{Request, Sum, run, resume, soak}
use Rattle.locus_core.specs.Outside.{Change, FilesState, Holds}

-- by how many workers a sum is done, for at most how many trees, and the name of the file at whose presence it pauses
pub record SumPlan : Type 0 where
  pub workers : ℕ
  pub budget : ℕ
  pub stop_file : Option (List ℕ)

-- the plan of the words
abbrev pub plan_of : Sum → SumPlan
plan_of s = record { workers = s.workers; budget = s.budget; stop_file = s.stop_file }

-- A sum as it begins: the text of its problem, if there is one; the number of the first tree that is summed, and the
-- residues of the sums so far; the plan; and what is printed before all else.
pub record Beginning : Type 0 where
  pub source : Option (List ℕ)
  pub sum : SumView
  pub plan : SumPlan
  pub heading : List ℕ

-- no tree is summed yet
abbrev pub fresh_sum : ProblemView → SumView
fresh_sum p = record { problem = p; next = 0; residues = replicate (places_of p) 0 }

-- the sum of a problem text
abbrev pub of_text : List ℕ → ProblemView → SumPlan → Beginning
of_text bytes p plan = record { source = Some bytes; sum = fresh_sum p; plan = plan; heading = [] }

-- the rest of a sum that was paused
abbrev pub of_state : StateView → SumPlan → Beginning
of_state state plan = record { source = Some state.source; sum = sum_of state; plan = plan; heading = [] }

-- the sum of the generated problem of a number, which is neither paused nor stopped
abbrev pub of_number : ℕ → ℕ → Beginning
of_number number workers = record {
  source = None;
  sum = fresh_sum (generated_problem number);
  plan = record { workers = workers; budget = 2 ^ 40; stop_file = None };
  heading = codes "soak " ++ decimal number ++ codes "\n";
}

-- What is asked for begins a sum: `run` with the problem that the bytes of its file write, `resume` with the state whose
-- text they are, `soak` with the generated problem.
pub data Begins (files : Change FilesState) : Request → Beginning → Type 0 where
  by_run : (s : Sum) (bytes : List ℕ) (p : ProblemView) → Holds files s.file bytes → reading bytes ≡ Ok p
      → Begins files (run s) (of_text bytes p (plan_of s))
  by_resume : (s : Sum) (bytes : List ℕ) (state : StateView) → Holds files s.file bytes → IsState state
      → IsTextOf state bytes → Begins files (resume s) (of_state state (plan_of s))
  by_soak : (number workers : ℕ) → Begins files (soak number workers) (of_number number workers)

-- No tree is summed yet, or the residues so far are those of the partial sums over the numbers below the first.
abbrev pub IsTrueBeginning : Beginning → Type 0
IsTrueBeginning b = (b.sum ≡ fresh_sum b.sum.problem) ⊎ IsTrueSum b.sum
