-- Each step keeps the rule of the factor words.
use Rattle.std.proofs.Common.{◌≡◌, ◌≢◌, ℕ, zero, suc, ◌+◌, ◌-◌, ◌<◌, ◌≤◌, ◌⊎◌, inl, inr, ⊎_elim, eqb, List, [], ◌∷◌, ◌++◌, length, replicate, take, set, get_or, sym, refl, subst, ap, ◌∙◌, arith, length-append, map}
use Rattle.std.proofs.lemmas.List.{length-set, get_or-set_same, get_or-set_other, set-get_or, take-set-le, length-map}
use Rattle.std.proofs.Math.Seq.{take-append_seam, get_or-append_right}
use mathlib.Core.Option.{some, none}
use mathlib.Core.Logic.{dite}
use native.Mathlib.Decide.{ℕ_discrete}
use lib.ListN.{get_elem?}
use prog.Atomic.{either}
use Rattle.atomic_table.specs.Table.{Me, step, keeps, opening, Allows, Splits, Joins}
use Rattle.atomic_table.proofs.Lists.{at_set, exchanged}
use Rattle.arithmetic.specs.Numbers.{reduce}
use Rattle.factor_table.specs.declared.parameters.Parameters.{Parameters}
use Rattle.factor_table.specs.declared.table.Move.TheVariants.{Fill}
use Rattle.factor_table.specs.declared.table.View.{View}
use Rattle.factor_table.specs.KeyPlaces.{first_factor, words_of}
use Rattle.factor_table.specs.Factors.{sizes_of}
use Rattle.factor_table.specs.Rule.{AreFactors, TableHolds, IsFactorAt, Looks, Fills, with_place, looked, divided, new_view, joined, spent, opening_view, first_words}
use Rattle.factor_table.proofs.Views.{AllFit, all_fit, after_set, after_snoc, only_view, fits_moves, fits_place, fits_looked, fits_joined, fits_spent, fits_opening, fits_still}

-- the rule with other views
with_views : (p : Parameters) (words : List ℕ) (views after : List View) → AreFactors p words views
    → AllFit p words after → AreFactors p words after
with_views p words views after h fit = record {
  count = h.count;
  first = h.first;
  factors = h.factors;
  told = (λ id v at. (fit id v at).told);
  known = (λ id v at. (fit id v at).known);
}

pub factor_found : (p : Parameters) (place word : ℕ) → (word ≡ 0) ⊎ IsFactorAt p place word → word ≢ 0
    → IsFactorAt p place word
factor_found p place word (inl z) some_there = absurd (some_there z)
factor_found p place word (inr f) some_there = f

zero_there : (n i : ℕ) → get_or {A = ℕ} (replicate n 0) i 0 ≡ 0
zero_there zero i = refl
zero_there (suc n) zero = refl
zero_there (suc n) (suc i) = zero_there n i

-- a load changes no word
pub looks : (S : Type 0) (p : Parameters) (slots id place : ℕ) (me : Me S View) → me.0.parameters ≡ p
    → first_factor (sizes_of p) ≤ place
    → Allows (TableHolds {S = S} p) slots id me place (λ n. n) (Looks (step slots place 0 0 none) me)
looks S p slots id place me told from s h homes at in_range =
    let n : ℕ = get_or s.words place 0 in let w : View = looked me.0 place n in
    let fit = all_fit p s.words s.views h in (
      w,
      keeps,
      tt,
      subst (λ ws. AreFactors p ws (set s.views id w)) (sym (set-get_or s.words place 0))
          (with_views p s.words s.views (set s.views id w) h (after_set p s.words s.views id w fit (fits_looked p s.words me.0 place n (fit id me.0 at) (λ some_there. (from, some_there))))),
      (refl, λ some_there. subst (λ q. IsFactorAt q place n) (sym told) (factor_found p place n (h.factors place from) some_there)),
    )

-- the word of its place is written in place of 0
writes : (p : Parameters) (words : List ℕ) (views : List View) (id place word : ℕ) (v : View) → AreFactors p words views
    → get_elem? views id ≡ some v
    → first_factor (sizes_of p) ≤ place → place < words_of (sizes_of p) → word ≢ 0 → IsFactorAt p place word
    → AreFactors p (set words place word) (set views id (with_place v place (Fill place)))
writes p words views id place word v h at from below some_there is =
    let ws : List ℕ = set words place word in let w : View = with_place v place (Fill place) in
    let within : place < length words = subst (λ n. place < n) (sym h.count) below in
    let here : get_or ws place 0 ≡ word = get_or-set_same words place word 0 within in
    let stays : (x : ℕ) → get_or words x 0 ≢ 0 → get_or ws x 0 ≢ 0 = λ x filled.
    dite (ℕ_discrete x place) (λ e. subst (λ y. get_or ws y 0 ≢ 0) (sym e) (λ z. some_there (sym here ∙ z)))
    (λ n z. filled (sym (get_or-set_other words place x word 0 n) ∙ z)) in
    let fit : AllFit p ws views = λ j u e. fits_still p words ws u stays (all_fit p words views h j u e) in
    let after =
    after_set p ws views id w fit
    (fits_place p ws v place (Fill place) (fit id v at) (from, λ z. some_there (sym here ∙ z))) in
    let Is : ℕ → ℕ → Type 0 = λ x n. (n ≡ 0) ⊎ IsFactorAt p x n in record {
      count = length-set words place word ∙ h.count;
      first = take-set-le (first_factor (sizes_of p)) words place word from ∙ h.first;
      factors = λ x later. dite (ℕ_discrete x place) (λ e. subst (λ y. Is y (get_or ws y 0)) (sym e) (subst (Is place) (sym here) (inr is))) (λ n. subst (Is x) (sym (get_or-set_other words place x word 0 n)) (h.factors x later));
      told = (λ j u e. (after j u e).told);
      known = (λ j u e. (after j u e).known);
    }

-- a word that another has written stays
stays : (p : Parameters) (words : List ℕ) (views : List View) (id place : ℕ) (v : View) → AreFactors p words views
    → get_elem? views id ≡ some v
    → first_factor (sizes_of p) ≤ place → get_or words place 0 ≢ 0
    → AreFactors p (set words place (get_or words place 0)) (set views id (with_place v place (Fill place)))
stays p words views id place v h at from some_there =
    let w : View = with_place v place (Fill place) in let fit = all_fit p words views h in
    subst (λ ws. AreFactors p ws (set views id w)) (sym (set-get_or words place 0))
    (with_views p words views (set views id w) h (after_set p words views id w fit (fits_place p words v place (Fill place) (fit id v at) (from, some_there))))

pub fills : (S : Type 0) (p : Parameters) (slots id place word : ℕ) (me : Me S View) → first_factor (sizes_of p) ≤ place
    → place < words_of (sizes_of p) → word ≢ 0 → IsFactorAt p place word
    → Allows (TableHolds {S = S} p) slots id me place (λ n. either (eqb n 0) word n) (Fills (step slots place 0 word none) me)
fills S p slots id place word me from below some_there is s h homes at in_range = let w : View = with_place me.0 place (Fill place) in (
  w,
  keeps,
  tt,
  exchanged (get_or s.words place 0) 0 word (λ n. AreFactors p (set s.words place n) (set s.views id w))
      (λ e. writes p s.words s.views id place word me.0 h at from below some_there is)
      (λ ne. stays p s.words s.views id place me.0 h at from ne),
  refl,
)

pub splits : (S : Type 0) (p : Parameters) (id : ℕ) (v : View) → Splits (TableHolds {S = S} p) id v (divided v) (new_view v)
splits S p id v s h at =
    let fit = all_fit p s.words s.views h in let mine = fit id v at in let views : List View = set s.views id (divided v) in
    with_views p s.words s.views (views ++ new_view v ∷ []) h
    (after_snoc p s.words views (new_view v) (after_set p s.words s.views id (divided v) fit (fits_moves p s.words v (divided v).moves mine)) (fits_moves p s.words v [] mine))

other_view : (views : List View) (id other : ℕ) (both w : View) → ¬ (other ≡ id)
    → get_elem? (set views id both) other ≡ some w → get_elem? views other ≡ some w
other_view views id other both w differ e =
    ⊎_elim (λ (x : (other ≡ id) × (both ≡ w)). absurd (differ x.0))
    (λ (x : (other ≢ id) × (get_elem? views other ≡ some w)). x.1) (at_set views id other both w e)

pub joins : (S : Type 0) (p : Parameters) (id : ℕ) (v : View) (other : ℕ) (w : View)
    → Joins (TableHolds {S = S} p) id v other w (joined v w) spent
joins S p id v other w s h at differ there =
    let fit = all_fit p s.words s.views h in
    let both =
    fits_joined p s.words v w (fit id v at) (fit other w (other_view s.views id other (joined v w) w differ there)) in
    let first = after_set p s.words s.views id (joined v w) fit both in
    with_views p s.words s.views (set (set s.views id (joined v w)) other spent) h
    (after_set p s.words (set s.views id (joined v w)) other spent first (fits_spent p s.words))

-- a table in which no word is filled
pub opens : (S : Type 0) (p : Parameters) (words : List ℕ) (n : ℕ) → words ≡ first_words p ++ replicate n 0
    → length words ≡ words_of (sizes_of p)
    → TableHolds {S = S} p (opening words [] (opening_view p))
opens S p words n e count =
    let fit = only_view p words (opening_view p) (fits_opening p words) in
    let long : length (first_words p) ≡ first_factor (sizes_of p) = length-append (map (reduce 18446744073709551616) p.setup) p.moduli ∙ ap (λ k. k + length p.moduli) (length-map p.setup (reduce 18446744073709551616)) in record {
      count = count;
      first =
          (ap (λ ws. take (first_factor (sizes_of p)) ws) e ∙ ap (λ k. take k (first_words p ++ replicate n 0)) (sym long) ∙ take-append_seam (first_words p) (replicate n 0));
      factors =
          (λ place from. inl (ap (λ ws. get_or ws place 0) e ∙ get_or-append_right (first_words p) (replicate n 0) place 0 (omega arith) ∙ zero_there n (place - length (first_words p))));
      told = (λ j u at. (fit j u at).told);
      known = (λ j u at. (fit j u at).known);
    }

-- ---- the same steps, for a table with these parameters

pub looks_told : (S : Type 0) (q p : Parameters) (slots id place : ℕ) (me : Me S View) → q ≡ p → me.0.parameters ≡ p
    → first_factor (sizes_of p) ≤ place
    → Allows (TableHolds {S = S} q) slots id me place (λ n. n) (Looks (step slots place 0 0 none) me)
looks_told S q p slots id place me e told from =
    subst (λ k. Allows (TableHolds {S = S} k) slots id me place (λ n. n) (Looks (step slots place 0 0 none) me)) (sym e)
    (looks S p slots id place me told from)

pub fills_told : (S : Type 0) (q p : Parameters) (slots id place word : ℕ) (me : Me S View) → q ≡ p
    → first_factor (sizes_of p) ≤ place → place < words_of (sizes_of p) → word ≢ 0 → IsFactorAt p place word
    → Allows (TableHolds {S = S} q) slots id me place (λ n. either (eqb n 0) word n) (Fills (step slots place 0 word none) me)
fills_told S q p slots id place word me e from below some_there is =
    subst
    (λ k. Allows (TableHolds {S = S} k) slots id me place (λ n. either (eqb n 0) word n) (Fills (step slots place 0 word none) me))
    (sym e) (fills S p slots id place word me from below some_there is)
