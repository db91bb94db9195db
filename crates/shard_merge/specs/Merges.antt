-- Shards that are merged: why they cannot be, and what they make.
use Rattle.std.specs.Prelude.{◌≡◌, ◌≢◌, ℕ, ◌%◌, ◌<◌, ◌≤◌, ◌⊎◌, List, [], length, map, get_or, slice_index, sum_by, Result, Ok, Err}
use Rattle.localisation.specs.Agreement.{modulus_at}
use Rattle.problem.specs.Sums.{places_of}
use Rattle.shard_merge.specs.Shards.{ShardView, IsShard, IsTrueShard}
use Rattle.checkpoint.specs.States.{StateView, IsState, IsTrueState}
use Rattle.shard_merge.specs.declared.merge_error.MergeError.{MergeError}
use Rattle.shard_merge.specs.declared.merge_error.MergeError.TheVariants.{NoMemory, DifferentProblems, Overlap, Gap}
use Rattle.shard_merge.specs.declared.merging.Merged.{Merged}
use Rattle.shard_merge.specs.declared.merging.Merged.TheVariants.{Begun, Middle}

-- ---- ranges

abbrev pub sources_of : List ShardView → List (List ℕ)
sources_of shards = map (λ s. s.source) shards

-- a range: its first number, and its end, which is past its last number
abbrev pub ranges_of : List ShardView → List (ℕ × ℕ)
ranges_of shards = map (λ s. (s.first, s.end)) shards

abbrev pub source_at : List (List ℕ) → ℕ → List ℕ
source_at sources i = get_or sources i []

abbrev pub range_at : List (ℕ × ℕ) → ℕ → ℕ × ℕ
range_at ranges i = get_or ranges i (0, 0)

abbrev pub HasNumber : ℕ × ℕ → ℕ → Type 0
HasNumber range n = (range.0 ≤ n) × (n < range.1)

-- some number is in both ranges
abbrev pub Overlaps : ℕ × ℕ → ℕ × ℕ → Type 0
Overlaps a b = (n : ℕ) × HasNumber a n × HasNumber b n

-- some range has the number
abbrev pub IsCovered : List (ℕ × ℕ) → ℕ → Type 0
IsCovered ranges n = (i : ℕ) × (i < length ranges) × HasNumber (range_at ranges i) n

-- n is the least of the first numbers
pub record IsLeastFirst (ranges : List (ℕ × ℕ)) (n : ℕ) : Type 0 where
  pub place : ℕ
  pub within : place < length ranges
  pub is : (range_at ranges place).0 ≡ n
  pub least : (i : ℕ) → i < length ranges → n ≤ (range_at ranges i).0

-- n is the greatest of the ends
pub record IsGreatestEnd (ranges : List (ℕ × ℕ)) (n : ℕ) : Type 0 where
  pub place : ℕ
  pub within : place < length ranges
  pub is : (range_at ranges place).1 ≡ n
  pub greatest : (i : ℕ) → i < length ranges → (range_at ranges i).1 ≤ n

-- ---- why shards cannot be merged

-- all are of the source of the first
abbrev pub AreOfOneSource : List (List ℕ) → Type 0
AreOfOneSource sources = (i : ℕ) → i < length sources → source_at sources i ≡ source_at sources 0

-- the first place of another source than that of the first
pub record IsFirstOther (sources : List (List ℕ)) (place : ℕ) : Type 0 where
  pub within : place < length sources
  pub other : source_at sources place ≢ source_at sources 0
  pub first : (i : ℕ) → i < place → source_at sources i ≡ source_at sources 0

-- no number is in two of the ranges
abbrev pub AreApart : List (ℕ × ℕ) → Type 0
AreApart ranges = (i j : ℕ) → i < j → j < length ranges → ¬ (Overlaps (range_at ranges i) (range_at ranges j))

-- the least pair of places, by the first and then by the second, of two ranges that have a number in common
pub record IsFirstOverlap (ranges : List (ℕ × ℕ)) (i j : ℕ) : Type 0 where
  pub order : i < j
  pub within : j < length ranges
  pub overlaps : Overlaps (range_at ranges i) (range_at ranges j)
  pub least : (k l : ℕ) → k < l → l < length ranges → Overlaps (range_at ranges k) (range_at ranges l)
      → (i < k) ⊎ ((i ≡ k) × (j ≤ l))

-- the least number between the least first number and the greatest end that is in no range
pub record IsFirstGap (ranges : List (ℕ × ℕ)) (n : ℕ) : Type 0 where
  pub first : ℕ
  pub end : ℕ
  pub is_first : IsLeastFirst ranges first
  pub is_end : IsGreatestEnd ranges end
  pub from : first ≤ n
  pub below : n < end
  pub missing : ¬ (IsCovered ranges n)
  pub least : (m : ℕ) → first ≤ m → m < n → IsCovered ranges m

-- this is the refusal of the shards; want of memory is none
abbrev pub IsMergeRefusal : List ShardView → MergeError → Type 0
IsMergeRefusal shards NoMemory = ⊥
IsMergeRefusal shards (DifferentProblems place) = IsFirstOther (sources_of shards) place
IsMergeRefusal shards (Overlap first second) =
    AreOfOneSource (sources_of shards) × IsFirstOverlap (ranges_of shards) first second
IsMergeRefusal shards (Gap number) =
    AreOfOneSource (sources_of shards) × AreApart (ranges_of shards) × IsFirstGap (ranges_of shards) number

-- ---- what shards make

-- the residue of a shard at a place
abbrev pub residue_at : ℕ → ShardView → ℕ
residue_at place shard = slice_index shard.residues place

-- the sums of the residues of all shards, each modulo its modulus
pub record AreSums (shards : List ShardView) (s : ShardView) : Type 0 where
  pub one_each : length s.residues ≡ places_of s.problem
  pub each : (place : ℕ) → place < places_of s.problem
      → slice_index s.residues place ≡ sum_by (residue_at place) shards % modulus_at s.problem.moduli place

-- shards that can be merged: all are of one source, no two have a number in common, lo is their least first number and
-- hi their greatest end, and together they have all numbers from lo on and below hi
pub record AreMergeable (shards : List ShardView) (lo hi : ℕ) : Type 0 where
  pub one_source : AreOfOneSource (sources_of shards)
  pub apart : AreApart (ranges_of shards)
  pub first : IsLeastFirst (ranges_of shards) lo
  pub end : IsGreatestEnd (ranges_of shards) hi
  pub covered : (n : ℕ) → lo ≤ n → n < hi → IsCovered (ranges_of shards) n

-- this is the sum of shards: of their common source, over all of their numbers
pub record IsUnion (shards : List ShardView) (s : ShardView) : Type 0 where
  pub mergeable : AreMergeable shards s.first s.end
  pub source : s.source ≡ source_at (sources_of shards) 0
  pub sums : AreSums shards s

-- the sums of a state, as those of the range of the numbers below next
abbrev pub below_next : StateView → ShardView
below_next s = record { source = s.source; problem = s.problem; first = 0; end = s.next; residues = s.residues }

-- a state exactly if the least first number is 0, and a shard otherwise
abbrev pub IsMerge : List ShardView → Merged → Type 0
IsMerge shards (Begun state) = IsState state × IsUnion shards (below_next state)
IsMerge shards (Middle shard) = IsShard shard × IsUnion shards shard × (0 < shard.first)

-- the residues are those of the partial sums over the trees of all shards
abbrev pub IsTrueMerge : Merged → Type 0
IsTrueMerge (Begun state) = IsTrueState state
IsTrueMerge (Middle shard) = IsTrueShard shard

-- the call was refused for this cause, want of memory aside
abbrev pub IsRefusedFor : Result Merged MergeError → MergeError → Type 0
IsRefusedFor (Ok merged) error = ⊥
IsRefusedFor (Err e) error = e ≢ NoMemory → e ≡ error
