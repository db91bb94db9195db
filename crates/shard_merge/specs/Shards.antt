-- What a shard is: the sums of a problem over a range of its trees.
use Rattle.std.specs.Prelude.{◌≡◌, ℕ, ◌<◌, ◌≤◌, List, Ok}
use Rattle.problem.specs.Rules.{ProblemView, KeepsRules}
use Rattle.problem.specs.Sums.{count_of, ArePartialSums}
use Rattle.problem_toml.specs.Reading.{reading}
use Rattle.checkpoint.specs.States.{AreResidues}

-- a source, the problem that it stands for, the first number of a range and its end, which is past its last number, and
-- the residues of sums: integral by integral, and within one integral modulus by modulus
pub record ShardView : Type 0 where
  pub source : List ℕ
  pub problem : ProblemView
  pub first : ℕ
  pub end : ℕ
  pub residues : List ℕ

-- the problem is the reading of the source, the range has a number and ends at the number of trees or before, and the
-- residues are below their moduli
pub record IsShard (s : ShardView) : Type 0 where
  pub problem : reading s.source ≡ Ok s.problem
  pub rules : KeepsRules s.problem
  pub some : s.first < s.end
  pub most : s.end ≤ count_of s.problem
  pub residues : AreResidues s.problem s.residues

-- a shard is true if its residues are those of the partial sums over the trees of its range
abbrev pub IsTrueShard : ShardView → Type 0
IsTrueShard s = ArePartialSums s.problem s.first s.end s.residues
