-- The sums of a problem by their indices: integral by integral, and within one integral modulus by modulus. An index is
-- divided by the number of moduli with remainder, and a sum that was written leaves all others as they were.
use Rattle.std.proofs.Common.{◌≡◌, ◌≢◌, ℕ, ◌+◌, ◌*◌, ◌/◌, ◌%◌, ◌<◌, ◌≤◌, List, [], length, get_or, set, slice_index, sym, ap, ◌∙◌, subst, arith, ⊎_elim, ℤ, eq-eqb, mul_comm, mul-le-mul, Result, Some}
use Rattle.std.specs.List.{slice_get}
use Rattle.std.proofs.lemmas.Bool.{cases_eq}
use Rattle.std.proofs.lemmas.List.{get_or-set_same, get_or-set_other}
use Rattle.std.proofs.lemmas.Option.{get_or_from_slice_get}
use Rattle.std.proofs.lemmas.Nat.{div-mul-add, mod-mul-add, mul-add-lt}
use Rattle.arithmetic.specs.Fractions.{Fraction, plus}
use Rattle.residue.specs.Answers.{GivesResidue}
use Rattle.residue.specs.Ratios.{IsRatioOf}
use Rattle.residue.specs.declared.class.Term.{Term}
use Rattle.residue.specs.declared.errors.NoUnit.{NoUnit}
use Rattle.residue.specs.declared.ratio.Ratio.{Ratio}
use Rattle.trees.specs.Decorated.{DecoratedTree}
use Rattle.localisation.specs.Contribution.{contribution}
use Rattle.localisation.specs.Agreement.{modulus_at, integral_at}
use Rattle.problem.specs.declared.problem.Problem.{Problem}
use Rattle.range_sum.specs.Totals.{ratio_at, IsRatioBelow, AddsFraction}

-- ---- at most eight integrals and eight moduli have at most 64 sums
pub at_most_64 : (p : Problem) → length p.integrals * length p.moduli ≤ 64
at_most_64 p =
    let most : length p.integrals * length p.moduli ≤ 8 * 8 = mul-le-mul p.rules.few_integrals p.rules.moduli.most in
    omega arith

pub within_64 : (p : Problem) (place : ℕ) → place < length p.integrals * length p.moduli → place < 64
within_64 p place h = let most = at_most_64 p in omega arith

-- ---- one more entry that was written
pub added_next : {S : Type 0} (P : ℕ → S → S → Type 0) (xs initial : List S) (d new : S) (place : ℕ) → place < length xs
    → ((q : ℕ) → q < place → P q (get_or initial q d) (get_or xs q d)) → get_or xs place d ≡ get_or initial place d
    → P place (get_or xs place d) new
    → (q : ℕ) → q < place + 1 → P q (get_or initial q d) (get_or (set xs place new) q d)
added_next P xs initial d new place within before same here q h =
    ⊎_elim
    (λ at_place. subst (λ p. P p (get_or initial p d) (get_or (set xs place new) p d)) at_place
    (subst (λ x. P place (get_or initial place d) x) (sym (get_or-set_same xs place new d within)) (subst (λ x. P place x new) same here)))
    (λ other. let ne : q ≢ place = λ eq. other (sym eq) in
    subst (P q (get_or initial q d)) (sym (get_or-set_other xs place q new d ne)) (before q (omega arith)))
    (cases_eq place q)

pub rest_next : {S : Type 0} (xs initial : List S) (d new : S) (place : ℕ)
    → ((q : ℕ) → place ≤ q → get_or xs q d ≡ get_or initial q d)
    → (q : ℕ) → place + 1 ≤ q → get_or (set xs place new) q d ≡ get_or initial q d
rest_next xs initial d new place before q h =
    get_or-set_other xs place q new d (λ eq. absurd (omega arith)) ∙ before q (omega arith)

-- the modulus that was read is that of the index
pub modulus_there : (ms : List ℕ) (n place m : ℕ) → n ≡ length ms → slice_get ms (place % n) ≡ Some m → modulus_at ms place ≡ m
modulus_there ms n place m l e =
    ap (λ k. slice_index ms (place % k)) (sym l) ∙ get_or_from_slice_get ms (place % n) m 0 e

-- what a ratio gives modulo the modulus that was read, it gives modulo that of the index
pub answer_there : (ms : List ℕ) (n place m : ℕ) (ratio : Ratio) (answer : Result ℕ NoUnit) → n ≡ length ms
    → slice_get ms (place % n) ≡ Some m
    → ((f : Fraction) → IsRatioOf m f ratio → GivesResidue m f answer)
    → (f : Fraction) → IsRatioOf (modulus_at ms place) f ratio → GivesResidue (modulus_at ms place) f answer
answer_there ms n place m ratio answer l e h =
    subst (λ k. (f : Fraction) → IsRatioOf k f ratio → GivesResidue k f answer) (sym (modulus_there ms n place m l e)) h

-- ---- the index of the sum of an integral and a modulus
pub modulus_of_place : (ms : List ℕ) (i j place m : ℕ) → place ≡ i * length ms + j → j < length ms → slice_get ms j ≡ Some m → modulus_at ms place ≡ m
modulus_of_place ms i j place m e below get =
    ap (λ p. slice_index ms (p % length ms)) e ∙ ap (slice_index ms) (mod-mul-add i (length ms) j below)
    ∙ get_or_from_slice_get ms j m 0 get

pub integral_of_place : (ms : List ℕ) (integrals : List (List Term)) (i j place : ℕ) → place ≡ i * length ms + j
    → j < length ms
    → integral_at ms integrals place ≡ get_or integrals i []
integral_of_place ms integrals i j place e below =
    ap (λ p. get_or integrals (p / length ms) []) e
    ∙ ap (λ q. get_or integrals q []) (div-mul-add i (length ms) j below)

pub place_below : (a b i j place : ℕ) → place ≡ i * b + j → i < a → j < b → place < a * b
place_below a b i j place e within below =
    rw e (subst (λ q. i * b + j < q) (mul_comm b a) (mul-add-lt i b j a within below))

-- what is below the modulus of the index is below the modulus that was read
pub below_there : (p : Problem) (i j place m : ℕ) (ratios initial : List Ratio) → place ≡ i * length p.moduli + j
    → i < length p.integrals → j < length p.moduli
    → slice_get p.moduli j ≡ Some m
    → ((q : ℕ) → q < length p.integrals * length p.moduli → IsRatioBelow (modulus_at p.moduli q) (ratio_at initial q))
    → ratio_at ratios place ≡ ratio_at initial place → IsRatioBelow m (ratio_at ratios place)
below_there p i j place m ratios initial e within below get each same =
    subst (λ n. IsRatioBelow n (ratio_at ratios place)) (modulus_of_place p.moduli i j place m e below get)
    (subst (IsRatioBelow (modulus_at p.moduli place)) (sym same)
    (each place (place_below (length p.integrals) (length p.moduli) i j place e within below)))

pub ratio_below : (ms : List ℕ) (j m : ℕ) (f : Fraction) (ratio : Ratio) → slice_get ms j ≡ Some m
    → IsRatioOf (slice_index ms j) f ratio → IsRatioBelow m ratio
ratio_below ms j m f ratio get r =
    subst (λ n. IsRatioBelow n ratio) (get_or_from_slice_get ms j m 0 get)
    (record { top = r.top.below; bottom = r.bottom.below })

-- a ratio to which the contribution was added modulo the modulus that was read
pub adds_there : (ws : List ℤ) (integrals : List (List Term)) (ms : List ℕ) (g h : DecoratedTree) (i j place m : ℕ) (old ratio new : Ratio)
    → place ≡ i * length ms + j → j < length ms → slice_get ms j ≡ Some m → g ≡ h
    → IsRatioOf (slice_index ms j) (contribution ws (get_or integrals i []) g) ratio
    → ((f k : Fraction) → IsRatioOf m f old → IsRatioOf m k ratio → IsRatioOf m (plus f k) new)
    → AddsFraction (modulus_at ms place) (contribution ws (integral_at ms integrals place) h) old new
adds_there ws integrals ms g h i j place m old ratio new e below get same is sum =
    subst (λ n. AddsFraction n (contribution ws (integral_at ms integrals place) h) old new)
    (sym (modulus_of_place ms i j place m e below get))
    (subst (λ ts. AddsFraction m (contribution ws ts h) old new) (sym (integral_of_place ms integrals i j place e below))
    (record {
      sum = λ f r. sum f (contribution ws (get_or integrals i []) h) r
          (subst (λ n. IsRatioOf n (contribution ws (get_or integrals i []) h) ratio) (get_or_from_slice_get ms j m 0 get)
          (subst (λ t. IsRatioOf (slice_index ms j) (contribution ws (get_or integrals i []) t) ratio) same is));
    }))
