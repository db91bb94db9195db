-- Which numbers can be listed, and what is known of all that is listed.
use Rattle.std.specs.Prelude.{◌≡◌, ℕ, ◌+◌, ◌-◌, ◌%◌, ◌<◌, ◌≤◌, List, [], map, length, sum, slice_index, get_or, Some}
use Rattle.arithmetic.specs.Fractions.{IsResidue}
use Rattle.lists.specs.Ranges.{counted_from}
use Rattle.trees.specs.TreeNumbers.{tree_of}
use Rattle.localisation.specs.Contribution.{contribution, partial_sum, kontsevich_sum}
use Rattle.problem.specs.Rules.{ProblemView}
use Rattle.problem.specs.Sums.{count_of}
use Rattle.sum_job.specs.Parts.{block_count}
use Rattle.tree_listing.specs.Residues.{residue_of}

-- The numbers from low to high - 1 are those of trees, of which there are at least one and at most 4,096.
pub record IsListable (p : ProblemView) (low high : ℕ) : Type 0 where
  pub some : low < high
  pub within : high ≤ count_of p
  pub few : high ≤ low + 4096

-- these are the residues of the contributions to an integral modulo m, one for each of the numbers: none is missing
abbrev pub AreListed : ProblemView → ℕ → ℕ → ℕ → ℕ → List ℕ → Type 0
AreListed p low high i m xs =
    map (λ k. residue_of m (contribution p.weights (get_or p.integrals i []) (tree_of p.shape k))) (counted_from low (high - low))
    ≡ map Some xs

-- If none is missing, the residues that are listed for an integral and a modulus add up to that of the partial sum; and to
-- that of Kontsevich's sum if all trees are listed.
pub record AddUp (p : ProblemView) (low high : ℕ) : Type 0 where
  pub partial : (i j : ℕ) (xs : List ℕ) → i < length p.integrals → j < length p.moduli
      → AreListed p low high i (slice_index p.moduli j) xs
      → IsResidue (slice_index p.moduli j) (partial_sum p.weights p.shape low high (get_or p.integrals i [])) (sum xs % slice_index p.moduli j)
  pub whole : low ≡ 0 → high ≡ count_of p → (i j : ℕ) (xs : List ℕ) → i < length p.integrals → j < length p.moduli
      → AreListed p low high i (slice_index p.moduli j) xs
      → IsResidue (slice_index p.moduli j) (kontsevich_sum p.weights p.shape (get_or p.integrals i [])) (sum xs % slice_index p.moduli j)

-- so many workers have shares, which add up to the blocks of 64 numbers, of which the last may be shorter
pub record ShareBlocks (low high workers : ℕ) (shares : List ℕ) : Type 0 where
  pub workers_are : length shares ≡ workers
  pub blocks_are : sum shares ≡ block_count low high
