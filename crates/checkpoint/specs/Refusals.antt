-- When a text is refused, and what is printed of it: each refusal comes if none before it does and its own condition
-- holds. Their order is 1 to 7, 10, 8, 9.
use Rattle.std.specs.Prelude.{◌≡◌, ◌≢◌, ℕ, ◌<◌, ◌≤◌, ◌^◌, ◌⊎◌, List, [], ◌++◌, length, slice_index, get_or, codes, decimal, Option, Some, None, Ok, Err}
use Rattle.std.specs.List.{concat, AllByRecursion}
use Rattle.hex.specs.Hex.{encode_lower, IsBytes}
use Rattle.sha2.specs.Sha256.{sha256}
use Rattle.localisation.specs.Agreement.{modulus_at}
use Rattle.problem.specs.Rules.{ProblemView}
use Rattle.problem.specs.Sums.{count_of}
use Rattle.problem_toml.specs.Reading.{reading}
use Rattle.problem_toml.specs.Refusals as problems
use Rattle.checkpoint.specs.Texts.{Contents, number_line, body_of, seal, text_of}
use Rattle.checkpoint.specs.declared.error.CheckpointError.{CheckpointError}
use Rattle.checkpoint.specs.declared.error.CheckpointError.TheVariants.{NoMemory, TooLong, NotCheckpoint, Damaged, BadVersion, BadBody, ProblemRefused, NextTooLarge, LineCount, ResidueCount, ResidueRefused}

-- ---- the form of a text

-- a text of at most 1,052,672 bytes
abbrev pub IsShort : List ℕ → Type 0
IsShort text = length text ≤ 1052672

-- a digest: 32 bytes
pub record IsDigest (digest : List ℕ) : Type 0 where
  pub count : length digest ≡ 32
  pub bytes : IsBytes digest

-- the digest that the last line keeps, what stands before that line, the version that the first line names, and what
-- follows the first line
pub record Parts : Type 0 where
  pub kept : List ℕ
  pub body : List ℕ
  pub version : ℕ
  pub rest : List ℕ

pub record SplitsInto (text : List ℕ) (p : Parts) : Type 0 where
  pub whole : text ≡ p.body ++ seal p.kept
  pub digest : IsDigest p.kept
  pub first_line : p.body ≡ number_line (codes "locus-checkpoint ") p.version ++ p.rest
  pub version : p.version < 2 ^ 64

abbrev pub IsKnownVersion : ℕ → Type 0
IsKnownVersion v = (v ≡ 1) ⊎ (v ≡ 2)

-- at least one residue, each below 2^64
pub record IsRow (row : List ℕ) : Type 0 where
  pub some : 1 ≤ length row
  pub numbers : AllByRecursion (λ r. r < 2 ^ 64) row

-- what a checkpoint may write: numbers below 2^64, in version 1 one row of residues, and in version 2 at least one
pub record AreContents (c : Contents) : Type 0 where
  pub version : IsKnownVersion c.version
  pub source : length c.source < 2 ^ 64
  pub next : c.next < 2 ^ 64
  pub rows : AllByRecursion IsRow c.rows
  pub some : 1 ≤ length c.rows
  pub one : c.version ≡ 1 → length c.rows ≡ 1

-- the text writes these contents, with their digest
pub record Writes (text : List ℕ) (c : Contents) : Type 0 where
  pub fits : IsShort text
  pub contents : AreContents c
  pub whole : text ≡ text_of c

-- ---- what a text writes, against its problem

-- the text writes these contents, and their source stands for this problem
pub record WritesFor (p : ProblemView) (text : List ℕ) (c : Contents) : Type 0 where
  pub writes : Writes text c
  pub problem : reading c.source ≡ Ok p

-- next is at most the number of trees as well
pub record HasNext (p : ProblemView) (text : List ℕ) (c : Contents) : Type 0 where
  pub written : WritesFor p text c
  pub next : c.next ≤ count_of p

-- there is a row for each integral as well
pub record HasRows (p : ProblemView) (text : List ℕ) (c : Contents) : Type 0 where
  pub written : HasNext p text c
  pub rows : length c.rows ≡ length p.integrals

-- there is a residue for each modulus in each row as well
pub record ReachesResidues (p : ProblemView) (text : List ℕ) (c : Contents) : Type 0 where
  pub written : HasRows p text c
  pub residues : AllByRecursion (λ row. length row ≡ length p.moduli) c.rows

-- the first row that has not as many numbers as wanted has so many
pub record IsFirstCount (rows : List (List ℕ)) (wanted found : ℕ) : Type 0 where
  pub place : ℕ
  pub within : place < length rows
  pub count : length (get_or rows place []) ≡ found
  pub other : found ≢ wanted
  pub first : (j : ℕ) → j < place → length (get_or rows j []) ≡ wanted

-- the index of the first residue that is not below its modulus
pub record IsFirstRefused (moduli residues : List ℕ) (place : ℕ) : Type 0 where
  pub within : place < length residues
  pub refused : modulus_at moduli place ≤ slice_index residues place
  pub first : (j : ℕ) → j < place → slice_index residues j < modulus_at moduli j

-- ---- the refusals

-- this is the refusal of the text; want of memory is none
abbrev pub IsCheckpointRefusal : List ℕ → CheckpointError → Type 0
IsCheckpointRefusal text NoMemory = ⊥
IsCheckpointRefusal text TooLong = 1052672 < length text
IsCheckpointRefusal text NotCheckpoint = IsShort text × ((p : Parts) → ¬ (SplitsInto text p))
IsCheckpointRefusal text (Damaged kept computed) = IsShort text × (p : Parts) × SplitsInto text p
    × (kept ≡ p.kept) × (computed ≡ sha256 p.body) × (kept ≢ computed)
IsCheckpointRefusal text (BadVersion version) = IsShort text × (p : Parts) × SplitsInto text p × (p.kept ≡ sha256 p.body)
    × (version ≡ p.version) × ¬ (IsKnownVersion version)
IsCheckpointRefusal text BadBody = IsShort text × (p : Parts) × SplitsInto text p × (p.kept ≡ sha256 p.body)
    × IsKnownVersion p.version × ((c : Contents) → AreContents c → p.body ≢ body_of c)
IsCheckpointRefusal text (ProblemRefused why) = (c : Contents) × Writes text c × (reading c.source ≡ Err why)
IsCheckpointRefusal text (NextTooLarge next count) = (c : Contents) × (p : ProblemView) × WritesFor p text c
    × (next ≡ c.next) × (count ≡ count_of p) × (count < next)
IsCheckpointRefusal text (LineCount found wanted) = (c : Contents) × (p : ProblemView) × HasNext p text c
    × (found ≡ length c.rows) × (wanted ≡ length p.integrals) × (found ≢ wanted)
IsCheckpointRefusal text (ResidueCount found wanted) = (c : Contents) × (p : ProblemView) × HasRows p text c
    × (wanted ≡ length p.moduli) × IsFirstCount c.rows wanted found
IsCheckpointRefusal text (ResidueRefused place) = (c : Contents) × (p : ProblemView) × ReachesResidues p text c
    × IsFirstRefused p.moduli (concat c.rows) place

-- ---- what is printed

-- the number of a refusal; want of memory is none
abbrev pub refusal_number : CheckpointError → Option ℕ
refusal_number NoMemory = None
refusal_number TooLong = Some 1
refusal_number NotCheckpoint = Some 2
refusal_number (Damaged kept computed) = Some 3
refusal_number (BadVersion version) = Some 4
refusal_number BadBody = Some 5
refusal_number (ProblemRefused why) = Some 6
refusal_number (NextTooLarge next count) = Some 7
refusal_number (LineCount found wanted) = Some 10
refusal_number (ResidueCount found wanted) = Some 8
refusal_number (ResidueRefused place) = Some 9

-- the number of a refusal, its name and its details, joined by single spaces
abbrev pub refusal_of : CheckpointError → List ℕ
refusal_of NoMemory = []
refusal_of TooLong = codes "1 TooLong"
refusal_of NotCheckpoint = codes "2 NotCheckpoint"
refusal_of (Damaged kept computed) = codes "3 Damaged " ++ encode_lower kept ++ codes " " ++ encode_lower computed
refusal_of (BadVersion version) = codes "4 BadVersion " ++ decimal version
refusal_of BadBody = codes "5 BadBody"
refusal_of (ProblemRefused why) = codes "6 ProblemRefused " ++ problems.refusal_of why
refusal_of (NextTooLarge next count) = codes "7 NextTooLarge " ++ decimal next ++ codes " " ++ decimal count
refusal_of (LineCount found wanted) = codes "10 LineCount " ++ decimal found ++ codes " " ++ decimal wanted
refusal_of (ResidueCount found wanted) = codes "8 ResidueCount " ++ decimal found ++ codes " " ++ decimal wanted
refusal_of (ResidueRefused place) = codes "9 ResidueRefused " ++ decimal place
