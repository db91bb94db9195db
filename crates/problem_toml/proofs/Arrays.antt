-- Arrays that are read one value after another.
use Rattle.std.proofs.Common.{◌≡◌, ℕ, ℤ, ◌<◌, ◌≤◌, ◌+◌, List, [], ◌∷◌, ◌++◌, Result, Ok, Err, Some, None, Bool, true, drop, length, get_or, refl, append_assoc, ap, ◌&&◌, is_some, Option, arith, ◌∙◌}
use Rattle.std.proofs.lemmas.List.{append-nil, drop_all}
use Rattle.toml.proofs.Views.{items_view-drop}
use Rattle.toml.specs.declared.value.Value.{Value}
use Rattle.std.specs.List.{list_all}
use Rattle.toml.specs.Data.{as_table, Members}
use Rattle.toml.specs.View.{view, items_view}
use Rattle.problem_toml.specs.Steps.{◌>>=◌}
use Rattle.problem_toml.specs.Tables.{integer_of, integers_in, all_tables, tables_among, with_table}
use Rattle.problem_toml.specs.declared.error.ProblemError.{ProblemError}
use Rattle.problem_toml.specs.declared.name.Name.{Name}
use Rattle.problem_toml.specs.declared.place.Place.{Place}

-- what was read, after a prefix
abbrev pub with_front : {A : Type 0} → List A → Result (List A) ProblemError → Result (List A) ProblemError
with_front front read = read >>= (λ xs. Ok (front ++ xs))

pub with_one : {A : Type 0} (xs : List A) (x : A) (read : Result (List A) ProblemError)
    → with_front xs (read >>= (λ ys. Ok (x ∷ ys))) ≡ with_front (xs ++ x ∷ []) read
with_one xs x (Ok ys) = rw append_assoc
with_one xs x (Err e) = refl

module _ (place : Place) (name : Name) where
  pub integers_next : (xs : List ℤ) (z : ℤ) (vs : List Value) (i : ℕ) (v : Value) → i < length vs
      → integer_of place name (view (get_or vs i v)) ≡ Ok z
      → with_front xs (integers_in place name (items_view (drop i vs)))
      ≡ with_front (xs ++ z ∷ []) (integers_in place name (items_view (drop (i + 1) vs)))
  integers_next xs z vs i v inside read = rw (items_view-drop vs i v inside, read) (with_one xs z _)

  pub integers_fail : (xs : List ℤ) (e : ProblemError) (vs : List Value) (i : ℕ) (v : Value) → i < length vs
      → integer_of place name (view (get_or vs i v)) ≡ Err e
      → with_front xs (integers_in place name (items_view (drop i vs))) ≡ Err e
  integers_fail xs e vs i v inside read = rw (items_view-drop vs i v inside, read)

  pub integers_all : (xs : List ℤ) (vs : List Value) (i : ℕ) → length vs ≤ i
      → with_front xs (integers_in place name (items_view (drop i vs))) ≡ Ok xs
  integers_all xs vs i over = rw (drop_all i vs over, append-nil)

pub tables_seen : (vs : List Value) → all_tables (items_view vs) ≡ list_all (λ v. is_some (as_table (view v))) vs
tables_seen [] = refl
tables_seen (v ∷ vs) = ap (λ b. is_some (as_table (view v)) && b) (tables_seen vs)

-- if all values are tables, there are as many tables as values
pub tables_counted : (vs : List Value) → list_all (λ v. is_some (as_table (view v))) vs ≡ true
    → length (tables_among (items_view vs)) ≡ length vs
tables_counted [] are = refl
tables_counted (v ∷ vs) are =
    by_table (as_table (view v)) (list_all (λ v. is_some (as_table (view v))) vs) are (tables_counted vs)
  where
    by_table : (t : Option Members) (b : Bool) → (is_some t && b) ≡ true
        → (b ≡ true → length (tables_among (items_view vs)) ≡ length vs)
        → length (with_table t (tables_among (items_view vs))) ≡ length (v ∷ vs)
    by_table None b are rest = cc
    by_table (Some doc) b are rest = omega (arith, rest are)

-- the tables among the values from index i on, if the value there is a table, and if it is none
pub tables_here : (vs : List Value) (i : ℕ) (v : Value) (doc : Members) → i < length vs
    → Some doc ≡ as_table (view (get_or vs i v))
    → tables_among (items_view (drop i vs)) ≡ doc ∷ tables_among (items_view (drop (i + 1) vs))
tables_here vs i v doc inside is = rw (items_view-drop vs i v inside, ← is)

pub tables_past : (vs : List Value) (i : ℕ) (v : Value) → i < length vs → None ≡ as_table (view (get_or vs i v))
    → tables_among (items_view (drop i vs)) ≡ tables_among (items_view (drop (i + 1) vs))
tables_past vs i v inside is = rw (items_view-drop vs i v inside, ← is)

pub tables_end : (vs : List Value) (i : ℕ) → length vs ≤ i → tables_among (items_view (drop i vs)) ≡ []
tables_end vs i over = rw (drop_all i vs over)

-- and how many there are
pub count_here : (vs : List Value) (i : ℕ) (v : Value) (doc : Members) → i < length vs
    → Some doc ≡ as_table (view (get_or vs i v))
    → length (tables_among (items_view (drop i vs))) ≡ length (tables_among (items_view (drop (i + 1) vs))) + 1
count_here vs i v doc inside is = ap length (tables_here vs i v doc inside is) ∙ omega arith
