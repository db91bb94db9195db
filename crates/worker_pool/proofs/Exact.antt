-- The least number that was reported is the least bad number of all blocks, though workers pass over what is above
-- the number that they saw.
use Rattle.std.proofs.Common.{◌≡◌, ℕ, zero, suc, ◌<◌, ◌≤◌, ◌⊎◌, inl, inr, ⊎_elim, Bool, true, false, cond, ◌&&◌, eqb, ltb, leb, min, List, [], ◌∷◌, length, get_or, sym, refl, ap, subst, ◌∙◌, arith}
use Rattle.std.specs.Prelude.{Option, Some, None, All}
use Rattle.std.specs.List.{cons_option}
use Rattle.std.proofs.lemmas.Bool.{le-leb}
use Rattle.std.proofs.lemmas.Bool.Decides.{nat_tests}
use mathlib.Core.Logic.{dite}
use native.Mathlib.Decide.{dec_lt, dec_le, ℕ_discrete}
use Rattle.claim_table.specs.declared.claimer.Record.{Record}
use Rattle.claim_table.specs.Counts.{bit, occurrences, least_of, nothing_bad}
use Rattle.claim_table.specs.Claims.{all_reported, IsShareOf}
use Rattle.claim_table.proofs.Lists.{occurrences-append, bit_eq, bit_ne, each_of_all}
use Rattle.worker_pool.specs.Rounds.{at_most, answers, blocks_of, seens_of, IsLeastOfRound}

-- n is at most each number that stands in the list
abbrev AtMostEach : ℕ → List ℕ → Type 0
AtMostEach n xs = (x : ℕ) → 0 < occurrences x xs → n ≤ x

passes : (number seen : ℕ) (o : Option ℕ) → o ≡ Some number → number ≤ seen → at_most seen o ≡ Some number
passes number seen o e le = ap (at_most seen) e ∙ (let t : leb number seen ≡ true = le-leb number seen le in rw t refl)

self_once : (x : ℕ) (xs : List ℕ) → 0 < occurrences x (x ∷ xs)
self_once x xs = omega (arith, bit_eq x x refl)

in_rest : (x : ℕ) (o : Option ℕ) (xs : List ℕ) → 0 < occurrences x xs → 0 < occurrences x (cons_option o xs)
in_rest x None xs h = h
in_rest x (Some y) xs h = omega arith

-- a number at most all answers and all that was seen is at most the least bad number of each block that was worked
at_most_worked : (g : ℕ → Option ℕ) (n b number : ℕ) (ps : List (ℕ × ℕ)) → AtMostEach n (answers g ps)
    → AtMostEach n (seens_of ps) → 0 < occurrences b (blocks_of ps) → g b ≡ Some number → n ≤ number
at_most_worked g n b number [] a s there e = absurd (omega arith)
at_most_worked g n b number (p ∷ ps) a s there e = dite (ℕ_discrete p.0 b)
    (λ is. dite (dec_le number p.1)
    (λ le. a number (subst (λ o. 0 < occurrences number (cons_option o (answers g ps)))
    (sym (passes number p.1 (g p.0) (ap g is ∙ e) le)) (self_once number (answers g ps))))
    (λ more. omega (arith, s p.1 (self_once p.1 (seens_of ps)))))
    (λ isnt. let z = bit_ne p.0 b isnt in
    at_most_worked g n b number ps (λ x h. a x (in_rest x (at_most p.1 (g p.0)) (answers g ps) h))
    (λ x h. s x (omega arith)) (omega arith) e)

-- an answer is the least bad number of a block that was worked
abbrev IsOfBlock : (ℕ → Option ℕ) → ℕ → List (ℕ × ℕ) → Type 0
IsOfBlock g x ps = (b : ℕ) × (0 < occurrences b (blocks_of ps)) × (g b ≡ Some x)

later : (g : ℕ → Option ℕ) (x : ℕ) (p : ℕ × ℕ) (ps : List (ℕ × ℕ)) → IsOfBlock g x ps → IsOfBlock g x (p ∷ ps)
later g x p ps r = (r.0, (omega (arith, r.1)), r.2)

first_or_later : (g : ℕ → Option ℕ) (x : ℕ) (p : ℕ × ℕ) (ps : List (ℕ × ℕ)) (t : Bool) (number : ℕ)
    → g p.0 ≡ Some number → 0 < occurrences x (cons_option (cond t (Some number) None) (answers g ps))
    → (0 < occurrences x (answers g ps) → IsOfBlock g x ps) → IsOfBlock g x (p ∷ ps)
first_or_later g x p ps false number e h rest = later g x p ps (rest h)
first_or_later g x p ps true number e h rest = dite (ℕ_discrete number x)
    (λ is. (p.0, self_once p.0 (blocks_of ps), e ∙ ap (λ n. Some n) is))
    (λ isnt. let z = bit_ne number x isnt in later g x p ps (rest (omega arith)))

answer_by : (g : ℕ → Option ℕ) (x : ℕ) (p : ℕ × ℕ) (ps : List (ℕ × ℕ)) (o : Option ℕ) → g p.0 ≡ o
    → 0 < occurrences x (cons_option (at_most p.1 o) (answers g ps)) → (0 < occurrences x (answers g ps) → IsOfBlock g x ps)
    → IsOfBlock g x (p ∷ ps)
answer_by g x p ps None e h rest = later g x p ps (rest h)
answer_by g x p ps (Some number) e h rest = first_or_later g x p ps (leb number p.1) number e h rest

answer_is : (g : ℕ → Option ℕ) (x : ℕ) (ps : List (ℕ × ℕ)) → 0 < occurrences x (answers g ps) → IsOfBlock g x ps
answer_is g x [] h = absurd (omega arith)
answer_is g x (p ∷ ps) h = answer_by g x p ps (g p.0) refl h (λ r. answer_is g x ps r)

least_at_most : (n : ℕ) (xs : List ℕ) → n ≡ least_of xs → AtMostEach n xs
least_at_most n [] e x h = absurd (omega arith)
least_at_most n (y ∷ ys) e x h = dite (ℕ_discrete y x) (λ is. omega arith) (λ isnt. let z = bit_ne y x isnt in
    omega (arith, least_at_most (least_of ys) ys refl x (omega arith)))

least_stands : (xs : List ℕ) → (least_of xs ≡ nothing_bad) ⊎ (0 < occurrences (least_of xs) xs)
least_stands [] = inl refl
least_stands (y ∷ ys) = dite (dec_le y (least_of ys)) (λ le. let e : min y (least_of ys) ≡ y = omega arith in
    inr (subst (λ n. 0 < occurrences n (y ∷ ys)) (sym e) (self_once y ys)))
    (λ more. let e : min y (least_of ys) ≡ least_of ys = omega arith in
    ⊎_elim (λ z. inl (e ∙ z)) (λ h. inr (subst (λ n. 0 < occurrences n (y ∷ ys)) (sym e) (omega arith)))
    (least_stands ys))

reports_at : (rs : List Record) (k : ℕ) (d : Record) (x : ℕ) → k < length rs
    → 0 < occurrences x (get_or rs k d).reported → 0 < occurrences x (all_reported rs)
reports_at [] k d x lt h = absurd (omega arith)
reports_at (r ∷ rs) zero d x lt h = omega (arith, occurrences-append x r.reported (all_reported rs))
reports_at (r ∷ rs) (suc k) d x lt h = let a = occurrences-append x r.reported (all_reported rs) in
    omega (arith, reports_at rs k d x (omega arith) h)

reported_by : (rs : List Record) (x : ℕ) → 0 < occurrences x (all_reported rs) → (k : ℕ) × (k < length rs)
    × ((d : Record) → 0 < occurrences x (get_or rs k d).reported)
reported_by [] x h = absurd (omega arith)
reported_by (r ∷ rs) x h = let a = occurrences-append x r.reported (all_reported rs) in
    dite (dec_lt 0 (occurrences x r.reported)) (λ here. (0, omega arith, λ d. here))
    (λ later. let q = reported_by rs x (omega arith) in (suc q.0, (omega (arith, q.1)), λ d. q.2 d))

owner_self : (b n w : ℕ) → b < n → bit (ltb b n && eqb w w) ≡ 1
owner_self b n w h = grind (arith, nat_tests)

owned_below : (b n w k : ℕ) → 0 < bit (ltb b n && eqb w k) → b < n
owned_below b n w k h = grind (arith, nat_tests)

no_number : (o : Option ℕ) → ((number : ℕ) → o ≡ Some number → ⊥) → o ≡ None
no_number None h = refl
no_number (Some number) h = absurd (h number refl)

-- The records of all workers, each of which reported the answers at some pairs whose blocks are those that it owns.
module _ (g : ℕ → Option ℕ) (rs : List Record) (owners : List ℕ) (least : ℕ)
    (is : least ≡ least_of (all_reported rs)) (owned : (b : ℕ) → b < length owners → get_or owners b 0 < length rs)
    (did : (k : ℕ) (d : Record) → k < length rs → (ps : List (ℕ × ℕ)) × ((get_or rs k d).reported ≡ answers g ps)
    × IsShareOf owners k (blocks_of ps) × All (λ n. least ≤ n) (seens_of ps))
    (below : (b number : ℕ) → b < length owners → g b ≡ Some number → number < nothing_bad) (d : Record) where
  none_less : (b number : ℕ) → b < length owners → g b ≡ Some number → least ≤ number
  none_less b number lt e = let k : ℕ = get_or owners b 0 in
      let w = did k d (owned b lt) in
      let each : AtMostEach least (answers g w.0) = subst (AtMostEach least) w.1
      (λ x there. least_at_most least (all_reported rs) is x (reports_at rs k d x (owned b lt) there)) in
      let o = w.2 b in
      let t = owner_self b (length owners) k lt in
      at_most_worked g least b number w.0 each (each_of_all least (seens_of w.0) w.3) (omega arith) e

  found : least < nothing_bad → (b : ℕ) × (b < length owners) × (g b ≡ Some least)
  found less = ⊎_elim (λ none. absurd (omega arith))
      (λ there. let by = reported_by rs (least_of (all_reported rs)) there in
      let w = did by.0 d by.1 in
      let b = answer_is g (least_of (all_reported rs)) w.0 (subst
      (λ l. 0 < occurrences (least_of (all_reported rs)) l) w.1 (by.2 d)) in
      let o = w.2 b.0 in
      let q = b.1 in
      (b.0, owned_below b.0 (length owners) (get_or owners b.0 0) by.0 (omega arith), b.2 ∙ ap (λ n. Some n) (sym is)))
      (least_stands (all_reported rs))

  pub exact : (blocks : ℕ) → length owners ≡ blocks → IsLeastOfRound g blocks least
  exact blocks count = record {
    none_less = λ b number lt e. none_less b number (omega arith) e;
    found = λ less. let f = found less in (f.0, (omega (arith, f.1)), f.2);
    clean = λ none b lt. no_number (g b) (λ number e. let a = none_less b number (omega arith) e in
        omega (arith, below b number (omega arith) e));
  }
