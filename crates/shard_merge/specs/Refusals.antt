-- When a text is refused: each refusal comes if none before it does and its own condition holds. Their order is 1 to 7,
-- 10, 8, 9.
use Rattle.std.specs.Prelude.{◌≡◌, ◌≢◌, ℕ, ◌<◌, ◌≤◌, ◌^◌, ◌⊎◌, List, ◌++◌, length, codes, Option, Some, None, Ok, Err}
use Rattle.std.specs.List.{concat, AllByRecursion}
use Rattle.sha2.specs.Sha256.{sha256}
use Rattle.problem.specs.Rules.{ProblemView}
use Rattle.problem.specs.Sums.{count_of}
use Rattle.problem_toml.specs.Reading.{reading}
use Rattle.checkpoint.specs.Refusals.{IsShort, IsDigest, Parts, IsRow, IsFirstCount, IsFirstRefused}
use Rattle.checkpoint.specs.Texts.{number_line, seal}
use Rattle.shard_merge.specs.Texts.{Contents, body_of, text_of}
use Rattle.shard_merge.specs.declared.shard_error.ShardError.{ShardError}
use Rattle.shard_merge.specs.declared.shard_error.ShardError.TheVariants.{NoMemory, TooLong, NotShard, Damaged, BadVersion, BadBody, ProblemRefused, RangeRefused, LineCount, ResidueCount, ResidueRefused}

-- ---- the form of a text

-- a last line that keeps a digest, and a first that names a version
pub record SplitsInto (text : List ℕ) (p : Parts) : Type 0 where
  pub whole : text ≡ p.body ++ seal p.kept
  pub digest : IsDigest p.kept
  pub first_line : p.body ≡ number_line (codes "locus-shard ") p.version ++ p.rest
  pub version : p.version < 2 ^ 64

-- what a text may write: numbers below 2^64, and at least one row of residues
pub record AreContents (c : Contents) : Type 0 where
  pub source : length c.source < 2 ^ 64
  pub first : c.first < 2 ^ 64
  pub end : c.end < 2 ^ 64
  pub rows : AllByRecursion IsRow c.rows
  pub some : 1 ≤ length c.rows

-- the text writes these contents, with their digest
pub record Writes (text : List ℕ) (c : Contents) : Type 0 where
  pub fits : IsShort text
  pub contents : AreContents c
  pub whole : text ≡ text_of c

-- ---- what a text writes, against its problem

-- the text writes these contents, and their source stands for this problem
pub record WritesFor (p : ProblemView) (text : List ℕ) (c : Contents) : Type 0 where
  pub writes : Writes text c
  pub problem : reading c.source ≡ Ok p

-- the range has a number, and its end is at most the number of trees, as well
pub record HasRange (p : ProblemView) (text : List ℕ) (c : Contents) : Type 0 where
  pub written : WritesFor p text c
  pub some : c.first < c.end
  pub most : c.end ≤ count_of p

-- there is a row for each integral as well
pub record HasRows (p : ProblemView) (text : List ℕ) (c : Contents) : Type 0 where
  pub written : HasRange p text c
  pub rows : length c.rows ≡ length p.integrals

-- there is a residue for each modulus in each row as well
pub record ReachesResidues (p : ProblemView) (text : List ℕ) (c : Contents) : Type 0 where
  pub written : HasRows p text c
  pub residues : AllByRecursion (λ row. length row ≡ length p.moduli) c.rows

-- ---- the refusals

-- this is the refusal of the text; want of memory is none
abbrev pub IsShardRefusal : List ℕ → ShardError → Type 0
IsShardRefusal text NoMemory = ⊥
IsShardRefusal text TooLong = 1052672 < length text
IsShardRefusal text NotShard = IsShort text × ((p : Parts) → ¬ (SplitsInto text p))
IsShardRefusal text (Damaged kept computed) = IsShort text × (p : Parts) × SplitsInto text p
    × (kept ≡ p.kept) × (computed ≡ sha256 p.body) × (kept ≢ computed)
IsShardRefusal text (BadVersion version) = IsShort text × (p : Parts) × SplitsInto text p × (p.kept ≡ sha256 p.body)
    × (version ≡ p.version) × (version ≢ 1)
IsShardRefusal text BadBody = IsShort text × (p : Parts) × SplitsInto text p × (p.kept ≡ sha256 p.body)
    × (p.version ≡ 1) × ((c : Contents) → AreContents c → p.body ≢ body_of c)
IsShardRefusal text (ProblemRefused why) = (c : Contents) × Writes text c × (reading c.source ≡ Err why)
IsShardRefusal text (RangeRefused first end count) = (c : Contents) × (p : ProblemView) × WritesFor p text c
    × (first ≡ c.first) × (end ≡ c.end) × (count ≡ count_of p) × ((end ≤ first) ⊎ (count < end))
IsShardRefusal text (LineCount found wanted) = (c : Contents) × (p : ProblemView) × HasRange p text c
    × (found ≡ length c.rows) × (wanted ≡ length p.integrals) × (found ≢ wanted)
IsShardRefusal text (ResidueCount found wanted) = (c : Contents) × (p : ProblemView) × HasRows p text c
    × (wanted ≡ length p.moduli) × IsFirstCount c.rows wanted found
IsShardRefusal text (ResidueRefused place) = (c : Contents) × (p : ProblemView) × ReachesResidues p text c
    × IsFirstRefused p.moduli (concat c.rows) place

-- the number of a refusal; want of memory is none
abbrev pub refusal_number : ShardError → Option ℕ
refusal_number NoMemory = None
refusal_number TooLong = Some 1
refusal_number NotShard = Some 2
refusal_number (Damaged kept computed) = Some 3
refusal_number (BadVersion version) = Some 4
refusal_number BadBody = Some 5
refusal_number (ProblemRefused why) = Some 6
refusal_number (RangeRefused first end count) = Some 7
refusal_number (LineCount found wanted) = Some 10
refusal_number (ResidueCount found wanted) = Some 8
refusal_number (ResidueRefused place) = Some 9
