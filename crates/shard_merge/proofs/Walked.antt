-- What the walks along shards find is what their names say.
use Rattle.std.proofs.Common.{◌≡◌, ◌≢◌, ◌⊎◌, ℕ, zero, suc, ◌+◌, ◌≤◌, ◌<◌, min, max, Bool, true, false, leb, ltb, ◌&&◌, List, [], ◌∷◌, length, get_or, Option, Some, None, refl, sym, ap, subst, ◌∙◌, arith, inl, inr}
use Rattle.std.specs.Prelude.{bytes_eq}
use Rattle.std.proofs.lemmas.Bool.{both_ways, ltb-true, ltb-false, lt-ltb, leb-true, leb-false, le-leb}
use Rattle.std.proofs.lemmas.Bool.Decides.{nat_tests}
use Rattle.std.proofs.lemmas.Slice.Eq.{bytes_eq-Decides}
use Rattle.checkpoint.proofs.WordLaws.{chosen}
use Rattle.shard_merge.specs.Merges.{source_at, range_at, HasNumber, Overlaps, IsCovered, IsLeastFirst, IsGreatestEnd, AreOfOneSource, IsFirstOther, AreApart, IsFirstOverlap}
use Rattle.shard_merge.specs.Walks.{other_from, overlap, overlap_from, pair_or, pair_from, least_from, greatest_from, end_past, IsReached}

same_some : {A : Type 0} (x y : A) → ◌≡◌ {A = Option A} (Some x) (Some y) → x ≡ y
same_some x y h = cc

-- ---- sources

record OtherAt (source : List ℕ) (k : ℕ) (ss : List (List ℕ)) (p : ℕ) : Type 0 where
  pub i : ℕ
  pub place : p ≡ k + i
  pub within : i < length ss
  pub other : source_at ss i ≢ source
  pub first : (j : ℕ) → j < i → source_at ss j ≡ source

other_later : (source : List ℕ) (k : ℕ) (s : List ℕ) (ss : List (List ℕ)) (p : ℕ) → s ≡ source
    → OtherAt source (k + 1) ss p → OtherAt source k (s ∷ ss) p
other_later source k s ss p same later = record {
  i = suc later.i;
  place = omega (arith, later.place);
  within = omega (arith, later.within);
  other = later.other;
  first = before;
}
  where
    before : (j : ℕ) → j < suc later.i → source_at (s ∷ ss) j ≡ source
    before zero lt = same
    before (suc j) lt = later.first j (omega arith)

other_found : (source : List ℕ) (k : ℕ) (ss : List (List ℕ)) (p : ℕ) → other_from source k ss ≡ Some p
    → OtherAt source k ss p
other_found source k [] p h = absurd cc
other_found source k (s ∷ ss) p h =
    elim (chosen (bytes_eq s source) (other_from source (k + 1) ss) (Some k) (Some p) h) [
      | inl later ↦ other_later source k s ss p ((bytes_eq-Decides s source).0 later.0) (other_found source (k + 1) ss p later.1)
      | inr here ↦ record {
        i = 0;
        place = omega (arith, same_some k p here.1);
        within = omega arith;
        other = λ same. both_ways _ here.0 ((bytes_eq-Decides s source).1 same);
        first = λ j lt. absurd (omega arith);
      }
    ]

pub first_other : (sources : List (List ℕ)) (p : ℕ) → other_from (source_at sources 0) 0 sources ≡ Some p
    → IsFirstOther sources p
first_other sources p h =
    let found = other_found (source_at sources 0) 0 sources p h in
    let is : p ≡ found.i = omega (arith, found.place) in
    record {
      within = omega (arith, is, found.within);
      other = subst (λ (i : ℕ). source_at sources i ≢ source_at sources 0) (sym is) found.other;
      first = λ j lt. found.first j (omega (arith, is, lt));
    }

no_other : (source : List ℕ) (k : ℕ) (ss : List (List ℕ)) → other_from source k ss ≡ None
    → (i : ℕ) → i < length ss → source_at ss i ≡ source
no_other source k [] h i lt = absurd (omega arith)
no_other source k (s ∷ ss) h zero lt =
    elim (chosen (bytes_eq s source) (other_from source (k + 1) ss) (Some k) None h) [
      | inl later ↦ (bytes_eq-Decides s source).0 later.0
      | inr here ↦ absurd (let clash = here.1 in cc clash)
    ]
no_other source k (s ∷ ss) h (suc i) lt =
    elim (chosen (bytes_eq s source) (other_from source (k + 1) ss) (Some k) None h) [
      | inl later ↦ no_other source (k + 1) ss later.1 i (omega arith)
      | inr here ↦ absurd (let clash = here.1 in cc clash)
    ]

pub one_source : (sources : List (List ℕ)) → other_from (source_at sources 0) 0 sources ≡ None
    → AreOfOneSource sources
one_source sources h = no_other (source_at sources 0) 0 sources h

-- ---- overlaps

overlaps_from : (a b : ℕ × ℕ) → overlap a b ≡ true → Overlaps a b
overlaps_from a b h =
    let lt = ltb-true _ _ h in (max a.0 b.0, (omega (arith, lt), omega (arith, lt)), (omega (arith, lt), omega (arith, lt)))

overlap_true : (a b : ℕ × ℕ) → Overlaps a b → overlap a b ≡ true
overlap_true a b o = lt-ltb _ _ (omega (arith, o.1.0, o.1.1, o.2.0, o.2.1))

apart_from : (a b : ℕ × ℕ) → overlap a b ≡ false → ¬ (Overlaps a b)
apart_from a b h o = both_ways _ h (overlap_true a b o)

-- where the first overlap with a range is
pub record OverlapAt (range : ℕ × ℕ) (k : ℕ) (rs : List (ℕ × ℕ)) (p : ℕ) : Type 0 where
  pub i : ℕ
  pub place : p ≡ k + i
  pub within : i < length rs
  pub overlaps : Overlaps range (range_at rs i)
  pub first : (j : ℕ) → j < i → ¬ (Overlaps range (range_at rs j))

overlap_later : (range : ℕ × ℕ) (k : ℕ) (r : ℕ × ℕ) (rs : List (ℕ × ℕ)) (p : ℕ) → ¬ (Overlaps range r)
    → OverlapAt range (k + 1) rs p → OverlapAt range k (r ∷ rs) p
overlap_later range k r rs p apart later = record {
  i = suc later.i;
  place = omega (arith, later.place);
  within = omega (arith, later.within);
  overlaps = later.overlaps;
  first = before;
}
  where
    before : (j : ℕ) → j < suc later.i → ¬ (Overlaps range (range_at (r ∷ rs) j))
    before zero lt = apart
    before (suc j) lt = later.first j (omega arith)

overlap_found : (range : ℕ × ℕ) (k : ℕ) (rs : List (ℕ × ℕ)) (p : ℕ) → overlap_from range k rs ≡ Some p
    → OverlapAt range k rs p
overlap_found range k [] p h = absurd cc
overlap_found range k (r ∷ rs) p h =
    elim (chosen (overlap range r) (Some k) (overlap_from range (k + 1) rs) (Some p) h) [
      | inl here ↦ record {
        i = 0;
        place = omega (arith, same_some k p here.1);
        within = omega arith;
        overlaps = overlaps_from range r here.0;
        first = λ j lt. absurd (omega arith);
      }
      | inr later ↦ overlap_later range k r rs p (apart_from range r later.0) (overlap_found range (k + 1) rs p later.1)
    ]

no_overlap : (range : ℕ × ℕ) (k : ℕ) (rs : List (ℕ × ℕ)) → overlap_from range k rs ≡ None
    → (i : ℕ) → i < length rs → ¬ (Overlaps range (range_at rs i))
no_overlap range k [] h i lt = absurd (omega arith)
no_overlap range k (r ∷ rs) h zero lt =
    elim (chosen (overlap range r) (Some k) (overlap_from range (k + 1) rs) None h) [
      | inl here ↦ absurd (let clash = here.1 in cc clash)
      | inr later ↦ apart_from range r later.0
    ]
no_overlap range k (r ∷ rs) h (suc i) lt =
    elim (chosen (overlap range r) (Some k) (overlap_from range (k + 1) rs) None h) [
      | inl here ↦ absurd (let clash = here.1 in cc clash)
      | inr later ↦ no_overlap range (k + 1) rs later.1 i (omega arith)
    ]

-- where the least pair is
pub record PairAt (k : ℕ) (rs : List (ℕ × ℕ)) (p q : ℕ) : Type 0 where
  pub i : ℕ
  pub j : ℕ
  pub first : p ≡ k + i
  pub second : q ≡ k + j
  pub pair : IsFirstOverlap rs i j

pair_here : (k : ℕ) (r : ℕ × ℕ) (rs : List (ℕ × ℕ)) (p : ℕ) → OverlapAt r (k + 1) rs p → PairAt k (r ∷ rs) k p
pair_here k r rs p found = record {
  i = 0;
  j = suc found.i;
  first = omega arith;
  second = omega (arith, found.place);
  pair = record {
    order = omega arith;
    within = omega (arith, found.within);
    overlaps = found.overlaps;
    least = least;
  };
}
  where
    not_before : (m : ℕ) → Overlaps r (range_at rs m) → ¬ (m < found.i)
    not_before m o lt = found.first m lt o

    least : (a b : ℕ) → a < b → b < length (r ∷ rs) → Overlaps (range_at (r ∷ rs) a) (range_at (r ∷ rs) b)
        → (0 < a) ⊎ ((0 ≡ a) × (suc found.i ≤ b))
    least zero zero lt within o = absurd (omega arith)
    least zero (suc b) lt within o = inr (refl, omega (arith, not_before b o))
    least (suc a) b lt within o = inl (omega arith)

pair_later : (k : ℕ) (r : ℕ × ℕ) (rs : List (ℕ × ℕ)) (p q : ℕ)
    → ((i : ℕ) → i < length rs → ¬ (Overlaps r (range_at rs i)))
    → PairAt (k + 1) rs p q → PairAt k (r ∷ rs) p q
pair_later k r rs p q apart later = record {
  i = suc later.i;
  j = suc later.j;
  first = omega (arith, later.first);
  second = omega (arith, later.second);
  pair = record {
    order = omega (arith, later.pair.order);
    within = omega (arith, later.pair.within);
    overlaps = later.pair.overlaps;
    least = least;
  };
}
  where
    least : (a b : ℕ) → a < b → b < length (r ∷ rs) → Overlaps (range_at (r ∷ rs) a) (range_at (r ∷ rs) b)
        → (suc later.i < a) ⊎ ((suc later.i ≡ a) × (suc later.j ≤ b))
    least zero zero lt within o = absurd (omega arith)
    least zero (suc b) lt within o = absurd (apart b (omega arith) o)
    least (suc a) zero lt within o = absurd (omega arith)
    least (suc a) (suc b) lt within o =
        elim (later.pair.least a b (omega arith) (omega arith) o) [
          | inl less ↦ inl (omega (arith, less))
          | inr same ↦ inr (omega (arith, same.0), omega (arith, same.1))
        ]

pair_found : (k : ℕ) (rs : List (ℕ × ℕ)) (p q : ℕ) → pair_from k rs ≡ Some (p, q) → PairAt k rs p q
pair_found k [] p q h = absurd cc
pair_found k (r ∷ rs) p q h = by_first (overlap_from r (k + 1) rs) refl h (pair_found (k + 1) rs p q)
  where
    by_first : (o : Option ℕ) → overlap_from r (k + 1) rs ≡ o → pair_or k o (pair_from (k + 1) rs) ≡ Some (p, q)
        → (pair_from (k + 1) rs ≡ Some (p, q) → PairAt (k + 1) rs p q) → PairAt k (r ∷ rs) p q
    by_first (Some m) e h rest =
        let same = same_some (k, m) (p, q) h in
        subst (λ (x : ℕ × ℕ). PairAt k (r ∷ rs) x.0 x.1) same (pair_here k r rs m (overlap_found r (k + 1) rs m e))
    by_first None e h rest = pair_later k r rs p q (no_overlap r (k + 1) rs e) (rest h)

pub first_pair : (ranges : List (ℕ × ℕ)) (p q : ℕ) → pair_from 0 ranges ≡ Some (p, q) → IsFirstOverlap ranges p q
first_pair ranges p q h =
    let found = pair_found 0 ranges p q h in
    let first : found.i ≡ p = omega (arith, found.first) in
    let second : found.j ≡ q = omega (arith, found.second) in
    subst (λ (j : ℕ). IsFirstOverlap ranges p j) second
    (subst (λ (i : ℕ). IsFirstOverlap ranges i found.j) first found.pair)

pub no_pair : (k : ℕ) (rs : List (ℕ × ℕ)) → pair_from k rs ≡ None → AreApart rs
no_pair k [] h = λ i j lt within. absurd (omega arith)
no_pair k (r ∷ rs) h = by_first (overlap_from r (k + 1) rs) refl h (no_pair (k + 1) rs)
  where
    by_first : (o : Option ℕ) → overlap_from r (k + 1) rs ≡ o → pair_or k o (pair_from (k + 1) rs) ≡ None
        → (pair_from (k + 1) rs ≡ None → AreApart rs) → AreApart (r ∷ rs)
    by_first (Some m) e h rest i j lt within o = absurd (let clash = h in cc clash)
    by_first None e h rest zero zero lt within o = absurd (omega arith)
    by_first None e h rest zero (suc j) lt within o = no_overlap r (k + 1) rs e j (omega arith) o
    by_first None e h rest (suc i) zero lt within o = absurd (omega arith)
    by_first None e h rest (suc i) (suc j) lt within o = rest h i j (omega arith) (omega arith) o

-- ---- bounds

-- the least of n and all first numbers is n, or that of a range
record LeastOf (n : ℕ) (rs : List (ℕ × ℕ)) (found : ℕ) : Type 0 where
  pub most : found ≤ n
  pub least : (i : ℕ) → i < length rs → found ≤ (range_at rs i).0
  pub one : (found ≡ n) ⊎ ((i : ℕ) × (i < length rs) × ((range_at rs i).0 ≡ found))

least_found : (n : ℕ) (rs : List (ℕ × ℕ)) → LeastOf n rs (least_from n rs)
least_found n [] = record { most = omega arith; least = λ i lt. absurd (omega arith); one = inl refl }
least_found n (r ∷ rs) = step (least_from (min n r.0) rs) (least_found (min n r.0) rs)
  where
    step : (found : ℕ) → LeastOf (min n r.0) rs found → LeastOf n (r ∷ rs) found
    step found rest = record {
      most = omega (arith, rest.most);
      least = least;
      one = elim rest.one [
        | inl is ↦ by_less (leb n r.0) refl is
        | inr at ↦ inr (suc at.0, omega (arith, at.1), at.2)
      ];
    }
      where
        least : (i : ℕ) → i < length (r ∷ rs) → found ≤ (range_at (r ∷ rs) i).0
        least zero lt = omega (arith, rest.most)
        least (suc i) lt = rest.least i (omega arith)

        by_less : (b : Bool) → leb n r.0 ≡ b → found ≡ min n r.0
            → (found ≡ n) ⊎ ((i : ℕ) × (i < length (r ∷ rs)) × ((range_at (r ∷ rs) i).0 ≡ found))
        by_less true h is = inl (let le = leb-true n r.0 h in omega (arith, is, le))
        by_less false h is = inr (0, omega arith, (let lt = leb-false n r.0 h in omega (arith, is, lt)))

pub least_first : (ranges : List (ℕ × ℕ)) → 1 ≤ length ranges
    → IsLeastFirst ranges (least_from (range_at ranges 0).0 ranges)
least_first ranges some =
    let found = least_found (range_at ranges 0).0 ranges in
    elim found.one [
      | inl is ↦ record { place = 0; within = some; is = sym is; least = found.least }
      | inr at ↦ record { place = at.0; within = at.1; is = at.2; least = found.least }
    ]

record GreatestOf (n : ℕ) (rs : List (ℕ × ℕ)) (found : ℕ) : Type 0 where
  pub least : n ≤ found
  pub greatest : (i : ℕ) → i < length rs → (range_at rs i).1 ≤ found
  pub one : (found ≡ n) ⊎ ((i : ℕ) × (i < length rs) × ((range_at rs i).1 ≡ found))

greatest_found : (n : ℕ) (rs : List (ℕ × ℕ)) → GreatestOf n rs (greatest_from n rs)
greatest_found n [] = record { least = omega arith; greatest = λ i lt. absurd (omega arith); one = inl refl }
greatest_found n (r ∷ rs) = step (greatest_from (max n r.1) rs) (greatest_found (max n r.1) rs)
  where
    step : (found : ℕ) → GreatestOf (max n r.1) rs found → GreatestOf n (r ∷ rs) found
    step found rest = record {
      least = omega (arith, rest.least);
      greatest = greatest;
      one = elim rest.one [
        | inl is ↦ by_less (leb r.1 n) refl is
        | inr at ↦ inr (suc at.0, omega (arith, at.1), at.2)
      ];
    }
      where
        greatest : (i : ℕ) → i < length (r ∷ rs) → (range_at (r ∷ rs) i).1 ≤ found
        greatest zero lt = omega (arith, rest.least)
        greatest (suc i) lt = rest.greatest i (omega arith)

        by_less : (b : Bool) → leb r.1 n ≡ b → found ≡ max n r.1
            → (found ≡ n) ⊎ ((i : ℕ) × (i < length (r ∷ rs)) × ((range_at (r ∷ rs) i).1 ≡ found))
        by_less true h is = inl (let le = leb-true r.1 n h in omega (arith, is, le))
        by_less false h is = inr (0, omega arith, (let lt = leb-false r.1 n h in omega (arith, is, lt)))

pub greatest_end : (ranges : List (ℕ × ℕ)) → 1 ≤ length ranges
    → IsGreatestEnd ranges (greatest_from (range_at ranges 0).1 ranges)
greatest_end ranges some =
    let found = greatest_found (range_at ranges 0).1 ranges in
    elim found.one [
      | inl is ↦ record { place = 0; within = some; is = sym is; greatest = found.greatest }
      | inr at ↦ record { place = at.0; within = at.1; is = at.2; greatest = found.greatest }
    ]

-- ---- gaps

pub end_found : (n : ℕ) (rs : List (ℕ × ℕ)) (e : ℕ) → end_past n rs ≡ Some e
    → (i : ℕ) × (i < length rs) × HasNumber (range_at rs i) n × ((range_at rs i).1 ≡ e)
end_found n [] e h = absurd cc
end_found n (r ∷ rs) e h =
    elim (chosen (leb r.0 n && ltb n r.1) (Some r.1) (end_past n rs) (Some e) h) [
      | inl here ↦
          let both = here.0 in
          let from : r.0 ≤ n = grind (arith, nat_tests, both) in
          let below : n < r.1 = grind (arith, nat_tests, both) in
          (0, omega arith, (from, below), same_some r.1 e here.1)
      | inr later ↦
          let at = end_found n rs e later.1 in
          (suc at.0, omega (arith, at.1), at.2, at.3)
    ]

pub end_missing : (n : ℕ) (rs : List (ℕ × ℕ)) → end_past n rs ≡ None → ¬ (IsCovered rs n)
end_missing n [] h c = absurd (omega (arith, c.1))
end_missing n (r ∷ rs) h c =
    elim (chosen (leb r.0 n && ltb n r.1) (Some r.1) (end_past n rs) None h) [
      | inl here ↦ absurd (let clash = here.1 in cc clash)
      | inr later ↦ at_place c.0 c.1 c.2 later.0 (end_missing n rs later.1)
    ]
  where
    at_place : (i : ℕ) → i < length (r ∷ rs) → HasNumber (range_at (r ∷ rs) i) n → (leb r.0 n && ltb n r.1) ≡ false
        → ¬ (IsCovered rs n) → ⊥
    at_place zero lt has none rest = let a = has.0 in let b = has.1 in grind (arith, nat_tests, none, a, b)
    at_place (suc i) lt has none rest = rest (i, omega arith, has)

pub reached_none : (ranges : List (ℕ × ℕ)) (first : ℕ) → IsReached ranges first first
reached_none ranges first = record { from = omega arith; covered = λ m from lt. absurd (omega arith) }

pub reached_more : (ranges : List (ℕ × ℕ)) (first n e : ℕ) → IsReached ranges first n → end_past n ranges ≡ Some e
    → IsReached ranges first e
reached_more ranges first n e so_far h = record {
  from = omega (arith, so_far.from, grows);
  covered = λ m from lt. by_less (ltb m n) m refl from lt;
}
  where
    found : (i : ℕ) × (i < length ranges) × HasNumber (range_at ranges i) n × ((range_at ranges i).1 ≡ e)
    found = end_found n ranges e h

    grows : n < e
    grows = omega (arith, found.2.1, found.3)

    by_less : (b : Bool) → (m : ℕ) → ltb m n ≡ b → first ≤ m → m < e → IsCovered ranges m
    by_less true m t from lt = so_far.covered m from (ltb-true m n t)
    by_less false m t from lt =
        let le = ltb-false m n t in (found.0, found.1, (omega (arith, found.2.0, le), omega (arith, found.3, lt)))

pub end_grows : (n : ℕ) (rs : List (ℕ × ℕ)) (e : ℕ) → end_past n rs ≡ Some e → n < e
end_grows n rs e h = let found = end_found n rs e h in omega (arith, found.2.1, found.3)
