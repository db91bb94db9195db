-- Sums over the records of all views, in any representation, and how one view's part of them changes.
use Rattle.std.proofs.Common.{◌≡◌, ℕ, zero, suc, ◌+◌, ◌<◌, ◌≤◌, Bool, true, false, cond, eqb, eq-eqb, List, [], ◌∷◌, length, get_or, set, refl, ap, arith}
use Rattle.std.specs.Prelude.{All}
use Rattle.std.proofs.lemmas.Bool.Decides.{nat_tests}
use mathlib.Core.Option.{some}
use lib.ListN.{get_elem?}
use Rattle.claim_table.specs.declared.view.View.{View}
use Rattle.claim_table.specs.Counts.{total}
use Rattle.claim_table.specs.Views.{all_records, first_of, with_only}
use Rattle.claim_table.proofs.Lists.{total-set, total-append, total_le, at_most_total, at_most_or}

-- 1 for each record
abbrev pub one : {R : Type 0} → R → ℕ
one r = 1

-- f of each record of each view, added up
abbrev pub over : {R : Type 0} → (R → ℕ) → List (View R) → ℕ
over {R} f views = total (λ (v : View R). total f v.records) views

-- the number of records of a view with another number of blocks
abbrev pub stranger : {R : Type 0} → ℕ → View R → ℕ
stranger blocks v = cond (eqb v.blocks blocks) 0 (length v.records)

pub over_all : {R : Type 0} (f : R → ℕ) (views : List (View R)) → over f views ≡ total f (all_records views)
over_all f [] = refl
over_all f (v ∷ vs) = omega (arith, over_all f vs, total-append f v.records (all_records vs))

pub ones : {R : Type 0} (rs : List R) → total one rs ≡ length rs
ones [] = refl
ones (r ∷ rs) = omega (arith, ones rs)

pub nothing_of_none : {R : Type 0} (g : R → ℕ) (rs : List R) → total one rs ≡ 0 → total g rs ≡ 0
nothing_of_none g [] e = refl
nothing_of_none g (r ∷ rs) e = absurd (omega arith)

pub over_le : {R : Type 0} (f g : R → ℕ) (views : List (View R)) → ((r : R) → f r ≤ g r) → over f views ≤ over g views
over_le {R} f g views h =
    total_le (λ (v : View R). total f v.records) (λ (v : View R). total g v.records) views
    (λ v. total_le f g v.records h)

total_one : {R : Type 0} (d : R) (g : R → ℕ) (rs : List R) → length rs ≡ 1 → total g rs ≡ g (first_of d rs)
total_one d g [] e = absurd (omega arith)
total_one d g (r ∷ []) e = omega arith
total_one d g (r ∷ s ∷ rs) e = absurd (omega arith)

pub only_is : {R : Type 0} (d : R) (rs : List R) → length rs ≡ 1 → rs ≡ first_of d rs ∷ []
only_is d [] e = absurd (omega arith)
only_is d (r ∷ []) e = refl
only_is d (r ∷ s ∷ rs) e = absurd (omega arith)

-- the only record of one view changes
pub over_only : {R : Type 0} (d : R) (g : R → ℕ) (views : List (View R)) (id : ℕ) (v : View R) (r : R)
    → length v.records ≡ 1 → get_elem? views id ≡ some v
    → over g (set views id (with_only v r)) + g (first_of d v.records) ≡ over g views + g r
over_only {R} d g views id v r one_record at =
    let f : View R → ℕ = λ w. total g w.records in
    let changed : total f (set views id (with_only v r)) + f v ≡ total f views + f
    (with_only v r) = total-set f views id v (with_only v r) at in
    omega (arith, changed, total_one d g v.records one_record)

pub over_at : {R : Type 0} (d : R) (g : R → ℕ) (views : List (View R)) (id : ℕ) (v : View R)
    → length v.records ≡ 1 → get_elem? views id ≡ some v → g (first_of d v.records) ≤ over g views
over_at {R} d g views id v one_record at =
    let f : View R → ℕ = λ w. total g w.records in
    let most : f v ≤ total f views = at_most_total f views id v at in
    omega (arith, most, total_one d g v.records one_record)

equal_of : (a b : ℕ) → eqb a b ≡ true → a ≡ b
equal_of a b e = grind (arith, nat_tests)

no_stranger : (b : Bool) (n : ℕ) → 0 < n → cond {A = ℕ} b 0 n ≡ 0 → b ≡ true
no_stranger true n lt e = refl
no_stranger false n lt e = absurd (omega arith)

passed_or : (b : Bool) (n : ℕ) → (0 < n → b ≡ true) → cond {A = ℕ} b 0 n ≡ 0
passed_or true n h = refl
passed_or false zero h = refl
passed_or false (suc n) h = let e : false ≡ true = h (omega arith) in cc

pub rounds_from : {R : Type 0} (blocks : ℕ) (views : List (View R)) → total (stranger blocks) views ≡ 0
    → All (λ v. 0 < length v.records → v.blocks ≡ blocks) views
rounds_from {R} blocks views none k d lt some_record =
    let v : View R = get_or views k d in
    equal_of v.blocks blocks (no_stranger (eqb v.blocks blocks) (length v.records) some_record (omega (
      arith,
      at_most_or (stranger blocks) views k d lt,
    )))

pub rounds_to : {R : Type 0} (blocks : ℕ) (views : List (View R))
    → All (λ v. 0 < length v.records → v.blocks ≡ blocks) views → total (stranger blocks) views ≡ 0
rounds_to blocks [] h = refl
rounds_to blocks (v ∷ vs) h =
    omega (
      arith,
      rounds_to blocks vs (λ k d lt. h (suc k) d (omega arith)),
      passed_or (eqb v.blocks blocks) (length v.records) (λ lt. eq-eqb v.blocks blocks (h 0 v (omega arith) lt)),
    )

strange_one : {R : Type 0} (blocks : ℕ) (v : View R) → length v.records ≡ 1
    → stranger blocks v ≡ cond (eqb v.blocks blocks) 0 1
strange_one blocks v e = ap (λ n. cond (eqb v.blocks blocks) 0 n) e

not_other : (a b : ℕ) → cond {A = ℕ} (eqb a b) 0 1 ≡ 0 → a ≡ b
not_other a b e = grind (arith, nat_tests)

-- a seat with a record knows the number of blocks
pub knows_blocks : {R : Type 0} (blocks : ℕ) (views : List (View R)) (id : ℕ) (v : View R)
    → total (stranger blocks) views ≡ 0 → length v.records ≡ 1 → get_elem? views id ≡ some v → v.blocks ≡ blocks
knows_blocks blocks views id v none e at =
    let most : stranger blocks v ≤ total (stranger blocks) views = at_most_total (stranger blocks) views id v at in
    not_other v.blocks blocks (omega (arith, most, strange_one blocks v e))

pub same_strangers : {R : Type 0} (blocks : ℕ) (views : List (View R)) (id : ℕ) (v : View R) (r : R)
    → length v.records ≡ 1 → get_elem? views id ≡ some v
    → total (stranger blocks) (set views id (with_only v r)) ≡ total (stranger blocks) views
same_strangers {R} blocks views id v r e at =
    let f : View R → ℕ = stranger blocks in
    let changed : total f (set views id (with_only v r)) + f v ≡ total f views + f
    (with_only v r) = total-set f views id v (with_only v r) at in
    let new : f (with_only v r) ≡ cond (eqb v.blocks blocks) 0 1 = refl in
    omega (arith, changed, new, strange_one blocks v e)
