-- What the walks find of shards, and not of lists.
use Rattle.std.proofs.Common.{◌≡◌, ℕ, ◌≤◌, ◌<◌, List, [], ◌∷◌, length, slice_index_or, Option, Some, None, refl, sym, ap, subst, ◌∙◌, arith}
use Rattle.std.proofs.lemmas.List.{length-map}
use Rattle.shard_merge.specs.Merges.{sources_of, ranges_of, source_at, range_at, IsCovered, AreOfOneSource, IsFirstOther, AreApart, IsFirstOverlap, IsFirstGap, IsLeastFirst, IsGreatestEnd, AreMergeable}
use Rattle.shard_merge.specs.Shards.{ShardView}
use Rattle.shard_merge.specs.Walks.{other_from, pair_from, least_from, greatest_from, IsReached}
use Rattle.shard_merge.proofs.Walked.{first_other, one_source, no_pair, least_first, greatest_end}

-- the source of the first shard
pub first_source : (shards : List ShardView) (d s : ShardView) → 1 ≤ length shards → slice_index_or shards 0 d ≡ s
    → s.source ≡ source_at (sources_of shards) 0
first_source [] d s some h = absurd (omega arith)
first_source (t ∷ shards) d s some h = ap (λ (x : ShardView). x.source) (sym h)

pub other_is_first : (shards : List ShardView) (source : List ℕ) (p : ℕ) → source ≡ source_at (sources_of shards) 0
    → other_from source 0 (sources_of shards) ≡ Some p → IsFirstOther (sources_of shards) p
other_is_first shards source p e h =
    first_other (sources_of shards) p (subst (λ (s : List ℕ). other_from s 0 (sources_of shards) ≡ Some p) e h)

pub none_is_other : (shards : List ShardView) (source : List ℕ) → source ≡ source_at (sources_of shards) 0
    → other_from source 0 (sources_of shards) ≡ None → AreOfOneSource (sources_of shards)
none_is_other shards source e h =
    one_source (sources_of shards) (subst (λ (s : List ℕ). other_from s 0 (sources_of shards) ≡ None) e h)

ranges_some : (shards : List ShardView) → 1 ≤ length shards → 1 ≤ length (ranges_of shards)
ranges_some [] some = absurd (omega arith)
ranges_some (s ∷ shards) some = omega arith

pub first_is : (shards : List ShardView) (n : ℕ) → 1 ≤ length shards
    → n ≡ least_from (range_at (ranges_of shards) 0).0 (ranges_of shards) → IsLeastFirst (ranges_of shards) n
first_is shards n some e =
    subst (IsLeastFirst (ranges_of shards)) (sym e) (least_first (ranges_of shards) (ranges_some shards some))

pub end_is : (shards : List ShardView) (n : ℕ) → 1 ≤ length shards
    → n ≡ greatest_from (range_at (ranges_of shards) 0).1 (ranges_of shards) → IsGreatestEnd (ranges_of shards) n
end_is shards n some e =
    subst (IsGreatestEnd (ranges_of shards)) (sym e) (greatest_end (ranges_of shards) (ranges_some shards some))

pub gap_is_first : (ranges : List (ℕ × ℕ)) (lo hi n : ℕ) → IsLeastFirst ranges lo → IsGreatestEnd ranges hi
    → IsReached ranges lo n → ¬ (IsCovered ranges n) → n < hi → IsFirstGap ranges n
gap_is_first ranges lo hi n first end reached missing below = record {
  first = lo;
  end = hi;
  is_first = first;
  is_end = end;
  from = reached.from;
  below = below;
  missing = missing;
  least = reached.covered;
}

pub mergeable : (shards : List ShardView) (lo hi n : ℕ) → AreOfOneSource (sources_of shards) → AreApart (ranges_of shards)
    → IsLeastFirst (ranges_of shards) lo → IsGreatestEnd (ranges_of shards) hi
    → IsReached (ranges_of shards) lo n → hi ≤ n → AreMergeable shards lo hi
mergeable shards lo hi n source apart first end reached le = record {
  one_source = source;
  apart = apart;
  first = first;
  end = end;
  covered = λ m from lt. reached.covered m from (omega arith);
}
