-- What the steps of a merge find, shard by shard. These serve the proofs alone: when shards are refused, and what they
-- make, is said in Merges, and the contract of `merge` speaks of that.
use Rattle.std.specs.Prelude.{◌≡◌, ℕ, ◌+◌, ◌<◌, ◌≤◌, min, max, List, [], ◌∷◌, Option, Some, None, Bool, ◌&&◌, nat_lt, nat_le, bytes_eq, if◌then◌else◌}
use Rattle.shard_merge.specs.Merges.{IsCovered, range_at}

-- the first place of another source, counted from a place on
abbrev pub other_from : List ℕ → ℕ → List (List ℕ) → Option ℕ
other_from source place [] = None
other_from source place (s ∷ ss) = if bytes_eq s source then other_from source (place + 1) ss else Some place

-- whether two ranges have a number in common: the greater of their first numbers is below the lesser of their ends
abbrev pub overlap : ℕ × ℕ → ℕ × ℕ → Bool
overlap a b = nat_lt (max a.0 b.0) (min a.1 b.1)

-- the first place of a range that has a number in common with this one, counted from a place on
abbrev pub overlap_from : ℕ × ℕ → ℕ → List (ℕ × ℕ) → Option ℕ
overlap_from range place [] = None
overlap_from range place (r ∷ rs) = if overlap range r then Some place else overlap_from range (place + 1) rs

abbrev pub pair_or : ℕ → Option ℕ → Option (ℕ × ℕ) → Option (ℕ × ℕ)
pair_or place (Some other) later = Some (place, other)
pair_or place None later = later

-- the least pair of places of ranges that have a number in common, counted from a place on
abbrev pub pair_from : ℕ → List (ℕ × ℕ) → Option (ℕ × ℕ)
pair_from place [] = None
pair_from place (r ∷ rs) = pair_or place (overlap_from r (place + 1) rs) (pair_from (place + 1) rs)

-- the least of n and all first numbers
abbrev pub least_from : ℕ → List (ℕ × ℕ) → ℕ
least_from n [] = n
least_from n (r ∷ rs) = least_from (min n r.0) rs

-- the greatest of n and all ends
abbrev pub greatest_from : ℕ → List (ℕ × ℕ) → ℕ
greatest_from n [] = n
greatest_from n (r ∷ rs) = greatest_from (max n r.1) rs

-- the end of the first range that has the number n
abbrev pub end_past : ℕ → List (ℕ × ℕ) → Option ℕ
end_past n [] = None
end_past n (r ∷ rs) = if nat_le r.0 n && nat_lt n r.1 then Some r.1 else end_past n rs

-- each number from first on and below n is in some range
pub record IsReached (ranges : List (ℕ × ℕ)) (first n : ℕ) : Type 0 where
  pub from : first ≤ n
  pub covered : (m : ℕ) → first ≤ m → m < n → IsCovered ranges m
