-- Integrals that are read one after another.
use Rattle.std.proofs.Common.{◌≡◌, ℕ, ◌<◌, ◌≤◌, ◌+◌, List, [], ◌∷◌, ◌++◌, Ok, Err, Some, None, drop, length, get_or, arith, All, sum_by, ap, sym, ◌∙◌}
use Rattle.std.proofs.lemmas.List.{append-nil, length-append}
use Rattle.std.proofs.lemmas.List.Elements.{All-push}
use Rattle.std.proofs.lemmas.List.Sums.{sum_by-append}
use Rattle.toml.specs.declared.value.Value.{Value}
use Rattle.toml.specs.Data.{as_table, Members}
use Rattle.toml.specs.View.{view, items_view}
use Rattle.classes.specs.declared.class.Term.{Term}
use Rattle.problem.specs.Rules.{IsTerm}
use Rattle.problem_toml.specs.Integrals.{integral_of, integrals_from}
use Rattle.problem_toml.specs.Steps.{◌>>=◌}
use Rattle.problem_toml.specs.Tables.{tables_among}
use Rattle.problem_toml.specs.declared.error.ProblemError.{ProblemError}
use Rattle.problem_toml.proofs.Arrays.{with_front, with_one, tables_here, tables_past, tables_end}

terms_added : (xs : List (List Term)) (ts : List Term) → sum_by length (xs ++ ts ∷ []) ≡ sum_by length xs + length ts
terms_added xs ts = omega (arith, sum_by-append length xs (ts ∷ []))

-- the integrals up to value i are read, and those of the rest are to be read after them
pub record AreIntegralsUpTo (marks : ℕ) (vs : List Value) (i before : ℕ) (its : List (List Term)) : Type 0 where
  pub read : with_front its (integrals_from marks (length its) before (tables_among (items_view (drop i vs)))) ≡ integrals_from marks 0 0 (tables_among (items_view vs))
  pub count : length its + length (tables_among (items_view (drop i vs))) ≡ length (tables_among (items_view vs))
  pub few : length its ≤ i
  pub limits : All (All (IsTerm marks)) its
  pub least : All (λ terms. 1 ≤ length terms) its
  pub before_is : before ≡ sum_by length its
  pub most : before ≤ 32

module _ (marks : ℕ) where
  pub integrals_next : (vs : List Value) (i n before after : ℕ) (its : List (List Term)) (ts : List Term) (v : Value) (doc : Members)
      → i < length vs → Some doc ≡ as_table (view (get_or vs i v)) → n ≡ length its
      → integral_of marks n before doc ≡ Ok ts → All (IsTerm marks) ts → 1 ≤ length ts → before + length ts ≤ 32
      → after ≡ before + length ts
      → AreIntegralsUpTo marks vs i before its → AreIntegralsUpTo marks vs (i + 1) after (its ++ ts ∷ [])
  integrals_next vs i n before after its ts v doc inside is number read limits some most next so_far = record {
    read = ap (λ k. with_front (its ++ ts ∷ []) (integrals_from marks k after rest)) one_more ∙ ap (λ b. with_front (its ++ ts ∷ []) (integrals_from marks (length its + 1) b rest)) next
        ∙ sym (with_one its ts (integrals_from marks (length its + 1) (before + length ts) rest))
        ∙ ap (with_front its) (sym step) ∙ ap (λ docs. with_front its (integrals_from marks (length its) before docs)) (sym here) ∙ so_far.read;
    count = omega (arith, one_more, ap length here, so_far.count);
    few = omega (arith, one_more, so_far.few);
    limits = All-push (All (IsTerm marks)) its ts so_far.limits limits;
    least = All-push (λ terms. 1 ≤ length terms) its ts so_far.least some;
    before_is = next ∙ ap (λ b. b + length ts) so_far.before_is ∙ sym (terms_added its ts);
    most = omega (arith, next, most);
  }
    where
      rest : List Members
      rest = tables_among (items_view (drop (i + 1) vs))

      here : tables_among (items_view (drop i vs)) ≡ doc ∷ rest
      here = tables_here vs i v doc inside is

      one_more : length (its ++ ts ∷ []) ≡ length its + 1
      one_more = length-append its (ts ∷ [])

      step : integrals_from marks (length its) before (doc ∷ rest) ≡ (integrals_from marks (length its + 1) (before + length ts) rest >>= (λ us. Ok (ts ∷ us)))
      step =
          ap (λ r. r >>= (λ u. integrals_from marks (length its + 1) (before + length u) rest >>= (λ us. Ok (u ∷ us))))
          (ap (λ k. integral_of marks k before doc) (sym number) ∙ read)

  pub integrals_fail : (vs : List Value) (i n before : ℕ) (its : List (List Term)) (e : ProblemError) (v : Value) (doc : Members)
      → i < length vs → Some doc ≡ as_table (view (get_or vs i v)) → n ≡ length its
      → integral_of marks n before doc ≡ Err e → AreIntegralsUpTo marks vs i before its
      → integrals_from marks 0 0 (tables_among (items_view vs)) ≡ Err e
  integrals_fail vs i n before its e v doc inside is number read so_far =
      sym so_far.read
      ∙ ap (λ docs. with_front its (integrals_from marks (length its) before docs)) (tables_here vs i v doc inside is)
      ∙ ap
      (λ r. with_front its (r >>= (λ u. integrals_from marks (length its + 1) (before + length u) (tables_among (items_view (drop (i + 1) vs))) >>= (λ us. Ok (u ∷ us)))))
      (ap (λ k. integral_of marks k before doc) (sym number) ∙ read)

  pub integrals_other : (vs : List Value) (i before : ℕ) (its : List (List Term)) (v : Value) → i < length vs
      → None ≡ as_table (view (get_or vs i v))
      → AreIntegralsUpTo marks vs i before its → AreIntegralsUpTo marks vs (i + 1) before its
  integrals_other vs i before its v inside is so_far = record {
    read = ap (λ docs. with_front its (integrals_from marks (length its) before docs)) (sym past) ∙ so_far.read;
    count = omega (arith, ap length past, so_far.count);
    few = omega (arith, so_far.few);
    limits = so_far.limits;
    least = so_far.least;
    before_is = so_far.before_is;
    most = so_far.most;
  }
    where
      past : tables_among (items_view (drop i vs)) ≡ tables_among (items_view (drop (i + 1) vs))
      past = tables_past vs i v inside is

  pub integrals_all : (vs : List Value) (i before : ℕ) (its : List (List Term)) → length vs ≤ i
      → AreIntegralsUpTo marks vs i before its → integrals_from marks 0 0 (tables_among (items_view vs)) ≡ Ok its
  integrals_all vs i before its over so_far =
      sym so_far.read
      ∙ ap (λ docs. with_front its (integrals_from marks (length its) before docs)) (tables_end vs i over)
      ∙ ap Ok (append-nil its)

  pub integrals_counted : (vs : List Value) (i before : ℕ) (its : List (List Term)) → length vs ≤ i
      → AreIntegralsUpTo marks vs i before its → length its ≡ length (tables_among (items_view vs))
  integrals_counted vs i before its over so_far = omega (arith, ap length (tables_end vs i over), so_far.count)
