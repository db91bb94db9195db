-- What a state is: how far the sum of a problem has come.
use Rattle.std.specs.Prelude.{◌≡◌, ℕ, ◌<◌, ◌≤◌, List, length, slice_index, replicate, Result, Ok}
use Rattle.localisation.specs.Agreement.{modulus_at}
use Rattle.problem.specs.Rules.{ProblemView, KeepsRules}
use Rattle.problem.specs.Sums.{count_of, places_of, ArePartialSums}
use Rattle.problem_toml.specs.Reading.{reading}
use Rattle.problem_toml.specs.Steps.{◌>>=◌}
use Rattle.problem_toml.specs.declared.error.ProblemError.{ProblemError}

-- a source, the problem that it stands for, the number of the next tree, and the residues of the sums so far: integral
-- by integral, and within one integral modulus by modulus
pub record StateView : Type 0 where
  pub source : List ℕ
  pub problem : ProblemView
  pub next : ℕ
  pub residues : List ℕ

-- each residue is below its modulus
abbrev pub AreBelow : List ℕ → List ℕ → Type 0
AreBelow moduli residues = (place : ℕ) → place < length residues → slice_index residues place < modulus_at moduli place

-- there is one residue for each integral and modulus, and it is below its modulus
pub record AreResidues (p : ProblemView) (residues : List ℕ) : Type 0 where
  pub one_each : length residues ≡ places_of p
  pub below : AreBelow p.moduli residues

-- the problem is the reading of the source, next is at most the number of trees, and the residues are below their
-- moduli
pub record IsState (s : StateView) : Type 0 where
  pub problem : reading s.source ≡ Ok s.problem
  pub rules : KeepsRules s.problem
  pub next : s.next ≤ count_of s.problem
  pub residues : AreResidues s.problem s.residues

-- a state is true if its residues are those of the partial sums over the trees of the numbers below next
abbrev pub IsTrueState : StateView → Type 0
IsTrueState s = ArePartialSums s.problem 0 s.next s.residues

-- the state of a problem before any tree is summed
abbrev pub first_state : List ℕ → ProblemView → StateView
first_state source p = record { source = source; problem = p; next = 0; residues = replicate (places_of p) 0 }

-- the first state of a problem text, or the first rule that the text breaks
unfoldable pub fresh_of : List ℕ → Result StateView ProblemError
fresh_of source = reading source >>= (λ p. Ok (first_state source p))
