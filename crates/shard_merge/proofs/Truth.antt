-- The union of true shards is true.
use Rattle.std.proofs.Common.{◌≡◌, ◌≢◌, ◌⊎◌, ℕ, zero, suc, ◌+◌, ◌*◌, ◌%◌, ◌≤◌, ◌<◌, Bool, true, false, ltb, List, [], ◌∷◌, length, map, get_or, slice_index, slice_index_or, pos, Ok, refl, sym, ap, subst, ◌∙◌, arith, inl, inr, All}
use Rattle.std.specs.Prelude.{sum_by}
use Rattle.std.proofs.lemmas.Bool.{ltb-true, ltb-false}
use Rattle.std.proofs.lemmas.List.{get_or-map}
use Rattle.std.proofs.lemmas.List.Sums.{sum_by-cons}
use Rattle.std.proofs.Math.Nat.{add-mod, mod-eq_of_lt}
use Rattle.arithmetic.specs.Fractions.{fraction, plus, IsResidue}
use Rattle.arithmetic.proofs.Residues.{IsResidue-plus, residue_of_zero}
use Rattle.localisation.specs.Agreement.{modulus_at, integral_at}
use Rattle.localisation.specs.Contribution.{partial_sum}
use Rattle.localisation.proofs.PartialSums.{partial_sum-cut, partial_sum-none}
use Rattle.problem.specs.Rules.{ProblemView, KeepsRules}
use Rattle.problem.specs.Sums.{places_of, ArePartialSums}
use Rattle.problem_toml.specs.Reading.{reading}
use Rattle.problem.proofs.ProblemLaws.{modulus_above}
use Rattle.shard_merge.specs.Merges.{ranges_of, range_at, residue_at, HasNumber, Overlaps, AreMergeable, IsUnion, IsMerge, IsTrueMerge, below_next}
use Rattle.shard_merge.specs.Shards.{ShardView, IsShard, IsTrueShard}
use Rattle.shard_merge.specs.declared.merging.Merged.{Merged}
use Rattle.shard_merge.specs.declared.merging.Merged.TheVariants.{Begun, Middle}
use Rattle.shard_merge.proofs.Pieces.{Piece, piece_at, value_of, Fill, fill_sum}
use Rattle.shard_merge.proofs.Unions.{problem_is, ranges_long, range_is}

-- ---- the shards as pieces, at one place

abbrev piece_of : ℕ → ShardView → Piece
piece_of place s = ((s.first, s.end), slice_index s.residues place)

abbrev pieces_of : ℕ → List ShardView → List Piece
pieces_of place shards = map (piece_of place) shards

pieces_long : (place : ℕ) (shards : List ShardView) → length (pieces_of place shards) ≡ length shards
pieces_long place [] = refl
pieces_long place (s ∷ shards) = ap suc (pieces_long place shards)

piece_range : (place : ℕ) (shards : List ShardView) (i : ℕ)
    → range_at (ranges_of shards) i ≡ (piece_at (pieces_of place shards) i).0
piece_range place [] i = refl
piece_range place (s ∷ shards) zero = refl
piece_range place (s ∷ shards) (suc i) = piece_range place shards i

pieces_sum : (place : ℕ) (shards : List ShardView)
    → sum_by value_of (pieces_of place shards) ≡ sum_by (residue_at place) shards
pieces_sum place [] = refl
pieces_sum place (s ∷ shards) =
    let a = sum_by-cons value_of (piece_of place s) (pieces_of place shards) in
    let b = sum_by-cons (residue_at place) s shards in
    let rest = pieces_sum place shards in
    omega (arith, a, b, rest)

module _ (shards : List ShardView) (lo hi : ℕ) (merge : AreMergeable shards lo hi) (are : All IsShard shards)
    (d : ShardView) (place : ℕ) where
  at_piece : (i : ℕ) (P : ℕ × ℕ → Type 0) → P (range_at (ranges_of shards) i) → P (piece_at (pieces_of place shards) i).0
  at_piece i P h = subst P (piece_range place shards i) h

  from_piece : (i : ℕ) (P : ℕ × ℕ → Type 0) → P (piece_at (pieces_of place shards) i).0 → P (range_at (ranges_of shards) i)
  from_piece i P h = subst P (sym (piece_range place shards i)) h

  in_shards : (i : ℕ) → i < length (pieces_of place shards) → i < length shards
  in_shards i lt = omega (arith, pieces_long place shards, lt)

  in_ranges : (i : ℕ) → i < length (pieces_of place shards) → i < length (ranges_of shards)
  in_ranges i lt = omega (arith, pieces_long place shards, ranges_long shards, lt)

  some_piece : (i : ℕ) → i < length (pieces_of place shards)
      → (piece_at (pieces_of place shards) i).0.0 < (piece_at (pieces_of place shards) i).0.1
  some_piece i lt =
      at_piece i (λ (r : ℕ × ℕ). r.0 < r.1)
      (subst (λ (r : ℕ × ℕ). r.0 < r.1) (sym (range_is shards i d (in_shards i lt))) (are i d (in_shards i lt)).some)

  apart_ranges : (i j : ℕ) → i < length (ranges_of shards) → j < length (ranges_of shards) → i ≢ j
      → ¬ (Overlaps (range_at (ranges_of shards) i) (range_at (ranges_of shards) j))
  apart_ranges i j il jl other o = by_less (ltb i j) refl
    where
      by_less : (b : Bool) → ltb i j ≡ b → ⊥
      by_less true h = merge.apart i j (ltb-true i j h) jl o
      by_less false h =
          let le = ltb-false i j h in
          merge.apart j i (omega (arith, le, other)) il (o.0, o.2, o.1)

  fill : Fill lo hi (pieces_of place shards)
  fill = record {
    order = (let a = merge.first.least merge.end.place merge.end.within in
        let some = subst (λ (r : ℕ × ℕ). r.0 < r.1) (sym (range_is shards merge.end.place d (omega (arith, ranges_long shards, merge.end.within))))
        (are merge.end.place d (omega (arith, ranges_long shards, merge.end.within))).some in
        let is = merge.end.is in omega (arith, a, some, is));
    some = some_piece;
    from = λ i lt. at_piece i (λ (r : ℕ × ℕ). lo ≤ r.0) (merge.first.least i (in_ranges i lt));
    most = λ i lt. at_piece i (λ (r : ℕ × ℕ). r.1 ≤ hi) (merge.end.greatest i (in_ranges i lt));
    apart = λ i j il jl other o.
        apart_ranges i j (in_ranges i il) (in_ranges j jl) other
        (from_piece i (λ (r : ℕ × ℕ). Overlaps r (range_at (ranges_of shards) j)) (from_piece j (λ (r : ℕ × ℕ). Overlaps (piece_at (pieces_of place shards) i).0 r) o));
    covered = λ n from below.
        let at = merge.covered n from below in
        (at.0, omega (arith, pieces_long place shards, ranges_long shards, at.1), at_piece at.0 (λ (r : ℕ × ℕ). HasNumber r n) at.2);
  }

-- ---- the residue at one place

module _ (p : ProblemView) (rules : KeepsRules p) (place : ℕ) where
  -- a number stands for the partial sum over a range
  abbrev StandsFor : ℕ → ℕ → ℕ → Type 0
  StandsFor a b n =
      IsResidue (modulus_at p.moduli place) (partial_sum p.weights p.shape a b (integral_at p.moduli p.integrals place))
      (n % modulus_at p.moduli place)

  stands_none : (a : ℕ) → StandsFor a a 0
  stands_none a =
      let m = modulus_at p.moduli place in
      let above = modulus_above p rules place in
      let small : 0 < m = omega (arith, above) in
      subst (λ f. IsResidue m f (0 % m)) (sym (partial_sum-none p.weights p.shape a (integral_at p.moduli p.integrals place)))
      (subst (λ (n : ℕ). IsResidue m (fraction (pos 0) (pos 1)) n) (sym (mod-eq_of_lt small)) (residue_of_zero m above))

  stands_join : (a b c x y : ℕ) → a ≤ b → b ≤ c → StandsFor a b x → StandsFor b c y → StandsFor a c (x + y)
  stands_join a b c x y ab bc h k =
      let m = modulus_at p.moduli place in
      let terms = integral_at p.moduli p.integrals place in
      subst (λ f. IsResidue m f ((x + y) % m)) (sym (partial_sum-cut p.weights p.shape a b c terms ab bc))
      (subst (λ (n : ℕ). IsResidue m (plus (partial_sum p.weights p.shape a b terms) (partial_sum p.weights p.shape b c terms)) n) (sym (add-mod x y m))
      (IsResidue-plus m (partial_sum p.weights p.shape a b terms) (partial_sum p.weights p.shape b c terms) (x % m) (y % m)
      (modulus_above p rules place) h k))

  stands_for : (a b n : ℕ)
      → IsResidue (modulus_at p.moduli place) (partial_sum p.weights p.shape a b (integral_at p.moduli p.integrals place)) n
      → StandsFor a b n
  stands_for a b n h =
      let m = modulus_at p.moduli place in
      subst (λ (x : ℕ). IsResidue m (partial_sum p.weights p.shape a b (integral_at p.moduli p.integrals place)) x)
      (sym (mod-eq_of_lt h.below)) h

-- ---- the whole

module _ (shards : List ShardView) (d s : ShardView) (are : All IsShard shards) (read : reading s.source ≡ Ok s.problem)
    (rules : KeepsRules s.problem) (union : IsUnion shards s) (trues : All IsTrueShard shards) where
  stands_piece : (place : ℕ) → place < places_of s.problem → (i : ℕ) → i < length (pieces_of place shards)
      → StandsFor s.problem rules place (piece_at (pieces_of place shards) i).0.0 (piece_at (pieces_of place shards) i).0.1 (piece_at (pieces_of place shards) i).1
  stands_piece place within i lt =
      let many = pieces_long place shards in
      let below : i < length shards = omega (arith, many, lt) in
      let t = slice_index_or shards i d in
      let same = problem_is shards s.problem s.source read union.source are union.mergeable.one_source i d below in
      let sums : ArePartialSums s.problem t.first t.end t.residues =
      subst (λ (q : ProblemView). ArePartialSums q t.first t.end t.residues) same (trues i d below) in
      let here : StandsFor s.problem rules place t.first t.end (slice_index t.residues place) =
      stands_for s.problem rules place t.first t.end (slice_index t.residues place) (sums.each place within) in
      subst (λ (u : Piece). StandsFor s.problem rules place u.0.0 u.0.1 u.1)
      (sym (get_or-map (piece_of place) shards i d ((0, 0), 0) below)) here

  true_union : ArePartialSums s.problem s.first s.end s.residues
  true_union = record {
    as_many = let many = union.sums.one_each in omega (arith, many);
    each = λ place within.
        let m = modulus_at s.problem.moduli place in
        let terms = integral_at s.problem.moduli s.problem.integrals place in
        let all : StandsFor s.problem rules place s.first s.end (sum_by value_of (pieces_of place shards)) =
        fill_sum (StandsFor s.problem rules place) (stands_none s.problem rules place)
        (stands_join s.problem rules place) (length (pieces_of place shards)) (pieces_of place shards) refl s.first s.end
        (fill shards s.first s.end union.mergeable are d place) (stands_piece place within) in
        let sum : sum_by value_of (pieces_of place shards) % m ≡ slice_index s.residues place =
        ap (λ (n : ℕ). n % m) (pieces_sum place shards) ∙ sym (union.sums.each place within) in
        subst (λ (x : ℕ). IsResidue m (partial_sum s.problem.weights s.problem.shape s.first s.end terms) x) sum all;
  }

pub true_merge : (shards : List ShardView) (m : Merged) → All IsShard shards → IsMerge shards m
    → All IsTrueShard shards → IsTrueMerge m
true_merge [] (Begun state) are merge trues = absurd (omega (arith, merge.1.mergeable.first.within))
true_merge [] (Middle shard) are merge trues = absurd (omega (arith, merge.1.mergeable.first.within))
true_merge (s ∷ shards) (Begun state) are merge trues =
    true_union (s ∷ shards) s (below_next state) are merge.0.problem merge.0.rules merge.1 trues
true_merge (s ∷ shards) (Middle shard) are merge trues =
    true_union (s ∷ shards) s shard are merge.0.problem merge.0.rules merge.1 trues
