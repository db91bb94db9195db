-- Runs one after the other, each of which resumes the checkpoint that the one before printed.
use Rattle.std.specs.Prelude.{◌≡◌, ◌≢◌, ◌⊎◌, ℕ, List, ◌++◌, Option, Some, Ok}
use Rattle.recover_fraction.specs.declared.recovery.Fraction.{Fraction}
use Rattle.locus_io.specs.Content.{NamedFiles, file_of}
use Rattle.problem.specs.Rules.{ProblemView}
use Rattle.problem.specs.Sums.{HasBadTree, AreKontsevichSums}
use Rattle.problem_toml.specs.Reading.{reading}
use Rattle.checkpoint.specs.States.{StateView, AreResidues, IsState, IsTrueState}
use Rattle.checkpoint.specs.Texts.{text_in}
use Rattle.report.specs.Outcome.{LacksInverse}
use Rattle.report.specs.Fractions.{AreFractions, FindSums}
use Rattle.report.specs.Report.{done_status}
use Rattle.report.specs.Texts.{done_text, no_inverse_text}
use Rattle.command_line.specs.Requests.{Request, Sum, run, resume}
use Rattle.locus_core.specs.Words.{AsksFor}
use Rattle.locus_core.specs.Outside.{TakesText}
use Rattle.locus_core.specs.Ends.{Run, Ends}
use Rattle.locus_core.specs.Headline.{IsDoneStatus}

-- the words ask for the sum of a file, or for the rest of one, and the file holds these bytes
pub record ReadsFile (r : Run) (ask : Sum → Request) (bytes : List ℕ) : Type 0 where
  pub sum : Sum
  pub words : AsksFor r.words (ask sum)
  pub told : NamedFiles
  pub files : r.files.before.content ≡ Some told
  pub file : file_of sum.file told ≡ Some bytes

-- this text went to the output of a run
pub record HasPrinted (r : Run) (text : List ℕ) : Type 0 where
  pub earlier : List ℕ
  pub before : r.out.before.written ≡ Some earlier
  pub after : r.out.after.written ≡ Some (earlier ++ text)

-- A run sums the problem of a text, or it resumes what a run of the chain printed when it paused. Each run has a budget,
-- workers and a stop file of its own.
pub data IsChainOfRuns (source : List ℕ) : Run → Type 0 where
  begins : (r : Run) → ReadsFile r run source → IsChainOfRuns source r
  resumes : (before after : Run) (text : List ℕ) → IsChainOfRuns source before → Ends before 5 → HasPrinted before text
      → ReadsFile after resume text → IsChainOfRuns source after

-- The residues of Kontsevich's sums over all decorated trees were printed, none of which is bad, with the only fractions
-- within the bounds that agree with them.
pub record PrintsKontsevichSums (p : ProblemView) (r : Run) (n : ℕ) : Type 0 where
  pub residues : List ℕ
  pub fractions : List (Option Fraction)
  pub none_bad : ¬ HasBadTree p
  pub are_residues : AreResidues p residues
  pub sums : AreKontsevichSums p residues
  pub agree : AreFractions p residues fractions
  pub found : FindSums p fractions
  pub status : n ≡ done_status fractions
  pub out : TakesText r.out (done_text p residues fractions)

-- The least number of a bad tree among all decorated trees was printed, with the first modulus for which it is bad.
pub record NamesLeastOfAll (p : ProblemView) (r : Run) : Type 0 where
  pub number : ℕ
  pub index : ℕ
  pub is : LacksInverse p number index
  pub out : TakesText r.out (no_inverse_text p number index)

-- The checkpoint of a true state of the source was printed.
pub record PausesTruly (source : List ℕ) (p : ProblemView) (r : Run) : Type 0 where
  pub state : StateView
  pub same_source : state.source ≡ source
  pub same_problem : state.problem ≡ p
  pub is_state : IsState state
  pub truth : IsTrueState state
  pub out : TakesText r.out (text_in 2 state)

-- a chain is at its end: its sums are printed, or the least bad tree is
abbrev pub IsAtEnd : ℕ → Type 0
IsAtEnd n = IsDoneStatus n ⊎ (n ≡ 4)

-- the same status and the same text as another run that ended a chain of the same source, whatever that chain was
abbrev pub EndsAsAnother : List ℕ → Run → ℕ → Type 0
EndsAsAnother source r n = (other : Run) (m : ℕ) (text : List ℕ) → IsChainOfRuns source other → Ends other m → IsAtEnd m
    → HasPrinted other text → IsAtEnd n → (n ≡ m) × TakesText r.out text

-- What a run of a chain comes to, whatever the runs before it were asked to do. No run of a chain is refused.
pub record EndsChain (source : List ℕ) (p : ProblemView) (r : Run) (n : ℕ) : Type 0 where
  pub sums : IsDoneStatus n → PrintsKontsevichSums p r n
  pub refusal : n ≡ 4 → NamesLeastOfAll p r
  pub pause : n ≡ 5 → PausesTruly source p r
  pub same : EndsAsAnother source r n
  pub accepted : (n ≢ 2) × (n ≢ 3) × (n ≢ 8) × (n ≢ 10) × (n ≢ 11)

-- in each chain of which the run is the last one, from a text that writes a problem
abbrev pub EndsItsChains : Run → ℕ → Type 0
EndsItsChains r n = (source : List ℕ) (p : ProblemView) → IsChainOfRuns source r → reading source ≡ Ok p → EndsChain source p r n
