-- Shards are refused for one cause at most, and for none if they can be merged.
use Rattle.std.proofs.Common.{◌≡◌, ◌≢◌, ◌⊎◌, ℕ, ◌≤◌, ◌<◌, Bool, true, false, ltb, List, length, refl, sym, ap, subst, ◌∙◌, arith, inl, inr}
use Rattle.std.proofs.lemmas.Bool.{ltb-true, ltb-false}
use Rattle.shard_merge.specs.Merges.{sources_of, ranges_of, source_at, range_at, IsCovered, IsLeastFirst, IsGreatestEnd, AreOfOneSource, IsFirstOther, AreApart, IsFirstOverlap, IsFirstGap, IsMergeRefusal, AreMergeable}
use Rattle.shard_merge.specs.Shards.{ShardView}
use Rattle.shard_merge.specs.declared.merge_error.MergeError.{MergeError}
use Rattle.shard_merge.specs.declared.merge_error.MergeError.TheVariants.{NoMemory, DifferentProblems, Overlap, Gap}

-- two numbers of which neither is below the other are the same
not_less : (p q : ℕ) → ¬ (p < q) → ¬ (q < p) → p ≡ q
not_less p q a b = by_less (ltb p q) refl (ltb q p) refl
  where
    by_less : (c : Bool) → ltb p q ≡ c → (d : Bool) → ltb q p ≡ d → p ≡ q
    by_less true h d k = absurd (a (ltb-true p q h))
    by_less false h true k = absurd (b (ltb-true q p k))
    by_less false h false k = let le = ltb-false p q h in let ge = ltb-false q p k in omega (arith, le, ge)

same_other : (sources : List (List ℕ)) (p q : ℕ) → IsFirstOther sources p → IsFirstOther sources q → p ≡ q
same_other sources p q a b = not_less p q (λ lt. a.other (b.first p lt)) (λ lt. b.other (a.first q lt))

same_pair : (ranges : List (ℕ × ℕ)) (i j k l : ℕ) → IsFirstOverlap ranges i j → IsFirstOverlap ranges k l
    → (i ≡ k) × (j ≡ l)
same_pair ranges i j k l a b =
    both (a.least k l b.order b.within b.overlaps) (b.least i j a.order a.within a.overlaps)
  where
    both : (i < k) ⊎ ((i ≡ k) × (j ≤ l)) → (k < i) ⊎ ((k ≡ i) × (l ≤ j)) → (i ≡ k) × (j ≡ l)
    both (inl x) (inl y) = absurd (omega (arith, x, y))
    both (inl x) (inr y) = absurd (omega (arith, x, y.0))
    both (inr x) (inl y) = absurd (omega (arith, x.0, y))
    both (inr x) (inr y) = (x.0, omega (arith, x.1, y.1))

same_first : (ranges : List (ℕ × ℕ)) (a b : ℕ) → IsLeastFirst ranges a → IsLeastFirst ranges b → a ≡ b
same_first ranges a b x y =
    omega (arith, x.least y.place y.within, y.least x.place x.within, x.is, y.is)

same_end : (ranges : List (ℕ × ℕ)) (a b : ℕ) → IsGreatestEnd ranges a → IsGreatestEnd ranges b → a ≡ b
same_end ranges a b x y =
    omega (arith, x.greatest y.place y.within, y.greatest x.place x.within, x.is, y.is)

same_gap : (ranges : List (ℕ × ℕ)) (n m : ℕ) → IsFirstGap ranges n → IsFirstGap ranges m → n ≡ m
same_gap ranges n m a b =
    let first = same_first ranges a.first b.first a.is_first b.is_first in
    not_less n m
    (λ lt. a.missing (b.least n (omega (arith, first, a.from)) lt))
    (λ lt. b.missing (a.least m (omega (arith, first, b.from)) lt))

pub one_cause : (shards : List ShardView) (d e : MergeError) → IsMergeRefusal shards d → IsMergeRefusal shards e → d ≡ e
one_cause shards NoMemory e r s = absurd r
one_cause shards (DifferentProblems p) NoMemory r s = absurd s
one_cause shards (DifferentProblems p) (DifferentProblems q) r s =
    ap (λ (n : ℕ). DifferentProblems n) (same_other (sources_of shards) p q r s)
one_cause shards (DifferentProblems p) (Overlap i j) r s = absurd (r.other (s.0 p r.within))
one_cause shards (DifferentProblems p) (Gap n) r s = absurd (r.other (s.0 p r.within))
one_cause shards (Overlap i j) NoMemory r s = absurd s
one_cause shards (Overlap i j) (DifferentProblems q) r s = absurd (s.other (r.0 q s.within))
one_cause shards (Overlap i j) (Overlap k l) r s =
    let same = same_pair (ranges_of shards) i j k l r.1 s.1 in
    ap (λ (n : ℕ). Overlap n j) same.0 ∙ ap (λ (n : ℕ). Overlap k n) same.1
one_cause shards (Overlap i j) (Gap n) r s = absurd (s.1 i j r.1.order r.1.within r.1.overlaps)
one_cause shards (Gap n) NoMemory r s = absurd s
one_cause shards (Gap n) (DifferentProblems q) r s = absurd (s.other (r.0 q s.within))
one_cause shards (Gap n) (Overlap k l) r s = absurd (r.1 k l s.1.order s.1.within s.1.overlaps)
one_cause shards (Gap n) (Gap m) r s = ap (λ (k : ℕ). Gap k) (same_gap (ranges_of shards) n m r.2 s.2)

pub not_both : (shards : List ShardView) (lo hi : ℕ) (e : MergeError) → AreMergeable shards lo hi → IsMergeRefusal shards e → ⊥
not_both shards lo hi NoMemory m r = absurd r
not_both shards lo hi (DifferentProblems p) m r = r.other (m.one_source p r.within)
not_both shards lo hi (Overlap i j) m r = m.apart i j r.1.order r.1.within r.1.overlaps
not_both shards lo hi (Gap n) m r =
    let first = same_first (ranges_of shards) lo r.2.first m.first r.2.is_first in
    let end = same_end (ranges_of shards) hi r.2.end m.end r.2.is_end in
    r.2.missing (m.covered n (omega (arith, first, r.2.from)) (omega (arith, end, r.2.below)))
