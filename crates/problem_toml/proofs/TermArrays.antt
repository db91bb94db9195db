-- Classes and terms that are read one after another.
use Rattle.std.proofs.Common.{◌≡◌, ℕ, ◌<◌, ◌≤◌, ◌+◌, List, [], ◌∷◌, ◌++◌, Ok, Err, Some, None, drop, length, get_or, arith, All, ap, sym, ◌∙◌}
use Rattle.std.proofs.lemmas.List.{append-nil, length-append}
use Rattle.std.proofs.lemmas.List.Elements.{All-push}
use Rattle.toml.specs.declared.value.Value.{Value}
use Rattle.toml.specs.Data.{as_table, Members}
use Rattle.toml.specs.View.{view, items_view}
use Rattle.classes.specs.declared.class.Power.{Power}
use Rattle.classes.specs.declared.class.Term.{Term}
use Rattle.problem.specs.Rules.{IsPower, IsTerm}
use Rattle.problem_toml.specs.Classes.{power_of, powers_from}
use Rattle.problem_toml.specs.Steps.{◌>>=◌}
use Rattle.problem_toml.specs.Tables.{tables_among}
use Rattle.problem_toml.specs.Terms.{term_of, terms_from}
use Rattle.problem_toml.specs.declared.error.ProblemError.{ProblemError}
use Rattle.problem_toml.specs.declared.version.Version.{Version}
use Rattle.problem_toml.proofs.Arrays.{with_front, with_one, tables_here, tables_past, tables_end}

module _ (version : Version) (marks term : ℕ) where
  pub powers_next : (xs : List Power) (j : ℕ) (p : Power) (vs : List Value) (i : ℕ) (v : Value) (doc : Members)
      → i < length vs → Some doc ≡ as_table (view (get_or vs i v))
      → power_of version marks term j doc ≡ Ok p
      → with_front xs (powers_from version marks term j (tables_among (items_view (drop i vs))))
      ≡ with_front (xs ++ p ∷ []) (powers_from version marks term (j + 1) (tables_among (items_view (drop (i + 1) vs))))
  powers_next xs j p vs i v doc inside is read = rw (tables_here vs i v doc inside is, read) (with_one xs p _)

  pub powers_fail : (xs : List Power) (j : ℕ) (e : ProblemError) (vs : List Value) (i : ℕ) (v : Value) (doc : Members)
      → i < length vs → Some doc ≡ as_table (view (get_or vs i v))
      → power_of version marks term j doc ≡ Err e
      → with_front xs (powers_from version marks term j (tables_among (items_view (drop i vs)))) ≡ Err e
  powers_fail xs j e vs i v doc inside is read = rw (tables_here vs i v doc inside is, read)

  pub powers_other : (xs : List Power) (j : ℕ) (vs : List Value) (i : ℕ) (v : Value) → i < length vs
      → None ≡ as_table (view (get_or vs i v))
      → with_front xs (powers_from version marks term j (tables_among (items_view (drop i vs))))
      ≡ with_front xs (powers_from version marks term j (tables_among (items_view (drop (i + 1) vs))))
  powers_other xs j vs i v inside is = rw (tables_past vs i v inside is)

  pub powers_all : (xs : List Power) (j : ℕ) (vs : List Value) (i : ℕ) → length vs ≤ i
      → with_front xs (powers_from version marks term j (tables_among (items_view (drop i vs)))) ≡ Ok xs
  powers_all xs j vs i over = rw (tables_end vs i over, append-nil)

pub power_added : (m : ℕ) (xs : List Power) (p : Power) → All (IsPower m) xs → IsPower m p
    → All (IsPower m) (xs ++ p ∷ [])
power_added m xs p are is = All-push (IsPower m) xs p are is

module _ (version : Version) (marks : ℕ) where
  -- the terms up to value i are read, and those of the rest are to be read after them
  pub record AreTermsUpTo (first : ℕ) (vs : List Value) (i : ℕ) (ts : List Term) : Type 0 where
    pub read : with_front ts (terms_from version marks (first + length ts) (tables_among (items_view (drop i vs)))) ≡ terms_from version marks first (tables_among (items_view vs))
    pub limits : All (IsTerm marks) ts
    pub count : length ts + length (tables_among (items_view (drop i vs))) ≡ length (tables_among (items_view vs))
    pub few : length ts ≤ i

  pub terms_next : (first : ℕ) (vs : List Value) (i n : ℕ) (ts : List Term) (t : Term) (v : Value) (doc : Members)
      → i < length vs → Some doc ≡ as_table (view (get_or vs i v)) → n ≡ first + length ts
      → term_of version marks n doc ≡ Ok t → IsTerm marks t → AreTermsUpTo first vs i ts
      → AreTermsUpTo first vs (i + 1) (ts ++ t ∷ [])
  terms_next first vs i n ts t v doc inside is number read limits so_far = record {
    read = ap (λ k. with_front (ts ++ t ∷ []) (terms_from version marks k rest)) one_more ∙ sym (with_one ts t (terms_from version marks (first + length ts + 1) rest))
        ∙ ap (with_front ts) (sym step) ∙ ap (λ docs. with_front ts (terms_from version marks (first + length ts) docs)) (sym here) ∙ so_far.read;
    limits = All-push (IsTerm marks) ts t so_far.limits limits;
    count = omega (arith, length-append ts (t ∷ []), ap length here, so_far.count);
    few = omega (arith, length-append ts (t ∷ []), so_far.few);
  }
    where
      rest : List Members
      rest = tables_among (items_view (drop (i + 1) vs))

      here : tables_among (items_view (drop i vs)) ≡ doc ∷ rest
      here = tables_here vs i v doc inside is

      one_more : first + length (ts ++ t ∷ []) ≡ first + length ts + 1
      one_more = omega (arith, length-append ts (t ∷ []))

      step : terms_from version marks (first + length ts) (doc ∷ rest) ≡ (terms_from version marks (first + length ts + 1) rest >>= (λ us. Ok (t ∷ us)))
      step =
          ap (λ r. r >>= (λ u. terms_from version marks (first + length ts + 1) rest >>= (λ us. Ok (u ∷ us))))
          (ap (λ k. term_of version marks k doc) (sym number) ∙ read)

  pub terms_fail : (first : ℕ) (vs : List Value) (i n : ℕ) (ts : List Term) (e : ProblemError) (v : Value) (doc : Members)
      → i < length vs → Some doc ≡ as_table (view (get_or vs i v)) → n ≡ first + length ts
      → term_of version marks n doc ≡ Err e → AreTermsUpTo first vs i ts
      → terms_from version marks first (tables_among (items_view vs)) ≡ Err e
  terms_fail first vs i n ts e v doc inside is number read so_far =
      sym so_far.read
      ∙ ap (λ docs. with_front ts (terms_from version marks (first + length ts) docs))
      (tables_here vs i v doc inside is)
      ∙ ap
      (λ r. with_front ts (r >>= (λ u. terms_from version marks (first + length ts + 1) (tables_among (items_view (drop (i + 1) vs))) >>= (λ us. Ok (u ∷ us)))))
      (ap (λ k. term_of version marks k doc) (sym number) ∙ read)

  pub terms_other : (first : ℕ) (vs : List Value) (i : ℕ) (ts : List Term) (v : Value) → i < length vs
      → None ≡ as_table (view (get_or vs i v))
      → AreTermsUpTo first vs i ts → AreTermsUpTo first vs (i + 1) ts
  terms_other first vs i ts v inside is so_far = record {
    read = ap (λ docs. with_front ts (terms_from version marks (first + length ts) docs)) (sym past) ∙ so_far.read;
    limits = so_far.limits;
    count = omega (arith, ap length past, so_far.count);
    few = omega (arith, so_far.few);
  }
    where
      past : tables_among (items_view (drop i vs)) ≡ tables_among (items_view (drop (i + 1) vs))
      past = tables_past vs i v inside is

  pub terms_all : (first : ℕ) (vs : List Value) (i : ℕ) (ts : List Term) → length vs ≤ i → AreTermsUpTo first vs i ts
      → terms_from version marks first (tables_among (items_view vs)) ≡ Ok ts
  terms_all first vs i ts over so_far =
      sym so_far.read
      ∙ ap (λ docs. with_front ts (terms_from version marks (first + length ts) docs)) (tables_end vs i over)
      ∙ ap Ok (append-nil ts)

  pub terms_counted : (first : ℕ) (vs : List Value) (i : ℕ) (ts : List Term) → length vs ≤ i
      → AreTermsUpTo first vs i ts → length ts ≡ length (tables_among (items_view vs))
  terms_counted first vs i ts over so_far = omega (arith, ap length (tables_end vs i over), so_far.count)
