-- Residues that are added to the residues of sums, one index after the other, each modulo its own modulus.
use Rattle.std.proofs.Common.{◌≡◌, ◌≢◌, ℕ, ◌+◌, ◌*◌, ◌%◌, ◌<◌, ◌≤◌, List, length, get_or, set, slice_index, sym, ap, ◌∙◌, subst, arith, ⊎_elim, mul-le-mul, Some}
use Rattle.std.specs.List.{slice_get}
use Rattle.std.proofs.lemmas.Bool.{cases_eq}
use Rattle.std.proofs.lemmas.List.{get_or-set_same, get_or-set_other}
use Rattle.std.proofs.lemmas.Option.{get_or_from_slice_get}
use Rattle.localisation.specs.Agreement.{modulus_at}
use Rattle.problem.specs.Rules.{ProblemView, KeepsRules}
use Rattle.problem.specs.Sums.{places_of}

-- at most eight integrals and eight moduli have at most 64 sums
pub at_most_64 : (p : ProblemView) → KeepsRules p → places_of p ≤ 64
at_most_64 p rules =
    let most : length p.integrals * length p.moduli ≤ 8 * 8 = mul-le-mul rules.few_integrals rules.moduli.most in
    omega arith

-- one more entry that was written
pub added_next : (P : ℕ → ℕ → ℕ → Type 0) (xs initial : List ℕ) (new place : ℕ) → place < length xs
    → ((q : ℕ) → q < place → P q (slice_index initial q) (slice_index xs q))
    → slice_index xs place ≡ slice_index initial place
    → P place (slice_index xs place) new
    → (q : ℕ) → q < place + 1 → P q (slice_index initial q) (slice_index (set xs place new) q)
added_next P xs initial new place within before same here q h =
    ⊎_elim
    (λ at_place. subst (λ p. P p (get_or initial p 0) (get_or (set xs place new) p 0)) at_place
    (subst (λ x. P place (get_or initial place 0) x) (sym (get_or-set_same xs place new 0 within)) (subst (λ x. P place x new) same here)))
    (λ other. let ne : q ≢ place = λ eq. other (sym eq) in
    subst (P q (get_or initial q 0)) (sym (get_or-set_other xs place q new 0 ne)) (before q (omega arith)))
    (cases_eq place q)

pub rest_next : (xs initial : List ℕ) (new place : ℕ) → ((q : ℕ) → place ≤ q → slice_index xs q ≡ slice_index initial q)
    → (q : ℕ) → place + 1 ≤ q → slice_index (set xs place new) q ≡ slice_index initial q
rest_next xs initial new place before q h =
    get_or-set_other xs place q new 0 (λ eq. absurd (omega arith)) ∙ before q (omega arith)

-- the modulus that was read is that of the index
pub modulus_there : (ms : List ℕ) (n place m : ℕ) → n ≡ length ms → slice_get ms (place % n) ≡ Some m → modulus_at ms place ≡ m
modulus_there ms n place m l e =
    ap (λ k. slice_index ms (place % k)) (sym l) ∙ get_or_from_slice_get ms (place % n) m 0 e
