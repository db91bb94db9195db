-- Sums over pieces that fill a range, in any order, are the sum over the range.
use Rattle.std.proofs.Common.{◌≡◌, ◌≢◌, ◌⊎◌, ℕ, zero, suc, ◌+◌, ◌≤◌, ◌<◌, Bool, true, false, ltb, List, [], ◌∷◌, length, get_or, refl, sym, ap, subst, ◌∙◌, arith, inl, inr}
use Rattle.std.specs.Prelude.{sum_by}
use Rattle.std.proofs.lemmas.Bool.{ltb-true, ltb-false}
use Rattle.std.proofs.lemmas.List.Sums.{sum_by-cons}
use Rattle.shard_merge.specs.Merges.{HasNumber, Overlaps}

-- ---- a list without one of its items

abbrev remove : {A : Type 0} → ℕ → List A → List A
remove i [] = []
remove zero (x ∷ xs) = xs
remove (suc i) (x ∷ xs) = x ∷ remove i xs

-- the place that an item of the shorter list has in the longer
abbrev skip : ℕ → ℕ → ℕ
skip zero j = suc j
skip (suc i) zero = zero
skip (suc i) (suc j) = suc (skip i j)

length-remove : {A : Type 0} (i : ℕ) (xs : List A) → i < length xs → suc (length (remove i xs)) ≡ length xs
length-remove i [] lt = absurd (omega arith)
length-remove zero (x ∷ xs) lt = omega arith
length-remove (suc i) (x ∷ xs) lt = omega (arith, length-remove i xs (omega arith))

get_or-remove : {A : Type 0} (i j : ℕ) (xs : List A) (d : A) → i < length xs
    → get_or (remove i xs) j d ≡ get_or xs (skip i j) d
get_or-remove i j [] d lt = absurd (omega arith)
get_or-remove zero j (x ∷ xs) d lt = refl
get_or-remove (suc i) zero (x ∷ xs) d lt = refl
get_or-remove (suc i) (suc j) (x ∷ xs) d lt = get_or-remove i j xs d (omega arith)

skip_other : (i j : ℕ) → skip i j ≢ i
skip_other zero j h = omega (arith, h)
skip_other (suc i) zero h = omega (arith, h)
skip_other (suc i) (suc j) h = skip_other i j (omega (arith, h))

skip_most : (i j : ℕ) → skip i j ≤ suc j
skip_most zero j = omega arith
skip_most (suc i) zero = omega arith
skip_most (suc i) (suc j) = omega (arith, skip_most i j)

skip_same : (i j k : ℕ) → skip i j ≡ skip i k → j ≡ k
skip_same zero j k h = omega (arith, h)
skip_same (suc i) zero zero h = refl
skip_same (suc i) zero (suc k) h = absurd (omega (arith, h))
skip_same (suc i) (suc j) zero h = absurd (omega (arith, h))
skip_same (suc i) (suc j) (suc k) h = let e = skip_same i j k (omega (arith, h)) in omega (arith, e)

skip_onto : (n i k : ℕ) → i < suc n → k < suc n → k ≢ i → (j : ℕ) × (j < n) × (skip i j ≡ k)
skip_onto n zero zero lt below other = absurd (other refl)
skip_onto n zero (suc k) lt below other = (k, omega arith, refl)
skip_onto zero (suc i) k lt below other = absurd (omega arith)
skip_onto (suc n) (suc i) zero lt below other = (zero, omega arith, refl)
skip_onto (suc n) (suc i) (suc k) lt below other =
    let at = skip_onto n i k (omega arith) (omega arith) (λ same. other (ap suc same)) in
    (suc at.0, omega (arith, at.1), ap suc at.2)

sum_by-remove : {A : Type 0} (f : A → ℕ) (i : ℕ) (xs : List A) (d : A) → i < length xs
    → sum_by f xs ≡ f (get_or xs i d) + sum_by f (remove i xs)
sum_by-remove f i [] d lt = absurd (omega arith)
sum_by-remove f zero (x ∷ xs) d lt = sum_by-cons f x xs
sum_by-remove f (suc i) (x ∷ xs) d lt =
    let here = sum_by-cons f x xs in
    let there = sum_by-cons f x (remove i xs) in
    let rest = sum_by-remove f i xs d (omega arith) in
    omega (arith, here, there, rest)

-- ---- pieces

-- a range, and a number that stands for it
abbrev pub Piece : Type 0
Piece = (ℕ × ℕ) × ℕ

abbrev no_piece : Piece
no_piece = ((0, 0), 0)

abbrev pub piece_at : List Piece → ℕ → Piece
piece_at ts i = get_or ts i ((0, 0), 0)

-- pieces, none of them empty, no two with a number in common, that have exactly the numbers from a on and below c
pub record Fill (a c : ℕ) (ts : List Piece) : Type 0 where
  pub order : a ≤ c
  pub some : (i : ℕ) → i < length ts → (piece_at ts i).0.0 < (piece_at ts i).0.1
  pub from : (i : ℕ) → i < length ts → a ≤ (piece_at ts i).0.0
  pub most : (i : ℕ) → i < length ts → (piece_at ts i).0.1 ≤ c
  pub apart : (i j : ℕ) → i < length ts → j < length ts → i ≢ j → ¬ (Overlaps (piece_at ts i).0 (piece_at ts j).0)
  pub covered : (n : ℕ) → a ≤ n → n < c → (i : ℕ) × (i < length ts) × HasNumber (piece_at ts i).0 n

-- without the piece that has the first number, the others fill the rest
fill_rest : (a c : ℕ) (ts : List Piece) → Fill a c ts → (i : ℕ) → i < length ts → HasNumber (piece_at ts i).0 a
    → Fill (piece_at ts i).0.1 c (remove i ts)
fill_rest a c ts fill i lt has = record {
  order = fill.most i lt;
  some = λ j within. at_skip j (λ (t : Piece). t.0.0 < t.0.1) (fill.some (skip i j) (inside j within));
  from = from;
  most = λ j within. at_skip j (λ (t : Piece). t.0.1 ≤ c) (fill.most (skip i j) (inside j within));
  apart = λ j k jn kn other o.
      fill.apart (skip i j) (skip i k) (inside j jn) (inside k kn) (λ same. other (skip_same i j k same))
      (from_skip j (λ (t : Piece). Overlaps t.0 (piece_at ts (skip i k)).0) (from_skip k (λ (t : Piece). Overlaps (piece_at (remove i ts) j).0 t.0) o));
  covered = covered;
}
  where
    many : suc (length (remove i ts)) ≡ length ts
    many = length-remove i ts lt

    at_skip : (j : ℕ) (P : Piece → Type 0) → P (piece_at ts (skip i j)) → P (piece_at (remove i ts) j)
    at_skip j P h = subst P (sym (get_or-remove i j ts ((0, 0), 0) lt)) h

    from_skip : (j : ℕ) (P : Piece → Type 0) → P (piece_at (remove i ts) j) → P (piece_at ts (skip i j))
    from_skip j P h = subst P (get_or-remove i j ts ((0, 0), 0) lt) h

    inside : (j : ℕ) → j < length (remove i ts) → skip i j < length ts
    inside j within = omega (arith, many, within, skip_most i j)

    past : (k : ℕ) → k < length ts → k ≢ i → (b : Bool) → ltb (piece_at ts k).0.0 (piece_at ts i).0.1 ≡ b
        → (piece_at ts i).0.1 ≤ (piece_at ts k).0.0
    past k kn other false h = ltb-false _ _ h
    past k kn other true h =
        let less = ltb-true _ _ h in
        let later = fill.from k kn in
        let start = has.0 in
        let some = fill.some k kn in
        absurd
        (fill.apart i k lt kn (λ same. other (sym same)) ((piece_at ts k).0.0, (omega (arith, start, later), less), (omega arith, some)))

    from : (j : ℕ) → j < length (remove i ts) → (piece_at ts i).0.1 ≤ (piece_at (remove i ts) j).0.0
    from j within =
        at_skip j (λ (t : Piece). (piece_at ts i).0.1 ≤ t.0.0)
        (past (skip i j) (inside j within) (skip_other i j) (ltb (piece_at ts (skip i j)).0.0 (piece_at ts i).0.1) refl)

    covered : (n : ℕ) → (piece_at ts i).0.1 ≤ n → n < c → (j : ℕ) × (j < length (remove i ts)) × HasNumber (piece_at (remove i ts) j).0 n
    covered n late below =
        let end = has.1 in
        let at = fill.covered n (omega (arith, late, end)) below in
        let not_there : at.0 ≢ i = λ same. absurd
        (let inside_i = subst (λ (k : ℕ). n < (piece_at ts k).0.1) same at.2.1 in omega (arith, inside_i, late)) in
        let j = skip_onto (length (remove i ts)) i at.0 (omega (arith, many, lt)) (omega (arith, many, at.1)) not_there in
        (j.0, j.1, at_skip j.0 (λ (t : Piece). HasNumber t.0 n) (subst (λ (k : ℕ). HasNumber (piece_at ts k).0 n) (sym j.2) at.2))

abbrev pub value_of : Piece → ℕ
value_of t = t.1

-- numbers stand for ranges, and sums of numbers for ranges that meet
module _ (P : ℕ → ℕ → ℕ → Type 0) (none : (a : ℕ) → P a a 0)
    (join : (a b c x y : ℕ) → a ≤ b → b ≤ c → P a b x → P b c y → P a c (x + y)) where
  pub fill_sum : (k : ℕ) (ts : List Piece) → length ts ≡ k → (a c : ℕ) → Fill a c ts
      → ((i : ℕ) → i < length ts → P (piece_at ts i).0.0 (piece_at ts i).0.1 (piece_at ts i).1)
      → P a c (sum_by value_of ts)
  fill_sum zero [] e a c fill each = by_less (ltb a c) refl
    where
      by_less : (b : Bool) → ltb a c ≡ b → P a c (sum_by value_of [])
      by_less true h = absurd (omega (arith, (fill.covered a (omega arith) (ltb-true a c h)).1))
      by_less false h =
          let le = ltb-false a c h in
          let order = fill.order in
          let same : a ≡ c = omega (arith, le, order) in
          subst (λ (n : ℕ). P a n 0) same (none a)
  fill_sum zero (t ∷ ts) e a c fill each = absurd (omega (arith, e))
  fill_sum (suc k) [] e a c fill each = absurd (omega (arith, e))
  fill_sum (suc k) (t ∷ us) e a c fill each =
      let ts = t ∷ us in
      let some : 0 < length (t ∷ us) = omega arith in
      let begins = fill.from 0 some in
      let goes = fill.some 0 some in
      let ends = fill.most 0 some in
      let at = fill.covered a (omega arith) (omega (arith, begins, goes, ends)) in
      let i = at.0 in
      let early = at.2.0 in
      let late = fill.from i at.1 in
      let first : (piece_at (t ∷ us) i).0.0 ≡ a = omega (arith, early, late) in
      let here : P a (piece_at (t ∷ us) i).0.1 (piece_at (t ∷ us) i).1 =
      subst (λ (n : ℕ). P n (piece_at (t ∷ us) i).0.1 (piece_at (t ∷ us) i).1) first (each i at.1) in
      let many = length-remove i (t ∷ us) at.1 in
      let rest = fill_sum k (remove i (t ∷ us)) (omega (arith, many, e)) (piece_at (t ∷ us) i).0.1 c
      (fill_rest a c (t ∷ us) fill i at.1 at.2)
      (λ j within. subst (λ (u : Piece). P u.0.0 u.0.1 u.1) (sym (get_or-remove i j (t ∷ us) ((0, 0), 0) at.1)) (each (skip i j) (omega (arith, many, within, skip_most i j)))) in
      let total = sum_by-remove value_of i (t ∷ us) ((0, 0), 0) at.1 in
      let less = at.2.1 in
      subst (λ (n : ℕ). P a c n) (sym total)
      (join a (piece_at (t ∷ us) i).0.1 c (piece_at (t ∷ us) i).1 (sum_by value_of (remove i (t ∷ us))) (omega (arith, less)) (fill.most i at.1) here rest)
