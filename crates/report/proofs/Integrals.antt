-- The residues of one integral.
use Rattle.std.proofs.Common.{◌≡◌, ℕ, ◌+◌, ◌*◌, ◌<◌, ◌≤◌, List, [], ◌∷◌, ◌++◌, length, drop, slice_index, get_or, Option, None, sym, ap, subst, ◌∙◌, arith, ⊎_elim}
use Rattle.std.proofs.lemmas.List.{get_or-take, get_or-drop, get_or_append_left, get_or_push, length-append}
use Rattle.std.proofs.lemmas.Nat.{mul-add-lt, mod-mul-add, div-mul-add}
use Rattle.std.proofs.lemmas.Bool.{cases_lt}
use Rattle.localisation.specs.Agreement.{modulus_at, integral_at}
use Rattle.recover_fraction.specs.CommonResidues.{AreResiduesFor}
use Rattle.recover_fraction.specs.declared.recovery.Fraction.{Fraction}
use Rattle.classes.specs.declared.class.Term.{Term}
use Rattle.problem.specs.Rules.{ProblemView}
use Rattle.problem.specs.Sums.{places_of}
use Rattle.report.specs.Fractions.{residues_of, AreSumResidues, IsOnlyFraction, AreFractions}

-- the place of the integral i and the modulus j
pub place_within : (p : ProblemView) (i j : ℕ) → i < length p.integrals → j < length p.moduli
    → i * length p.moduli + j < places_of p
place_within p i j h l = let w = mul-add-lt i (length p.moduli) j (length p.integrals) h l in omega (arith, w)

pub modulus_there : (ms : List ℕ) (i j : ℕ) → j < length ms → modulus_at ms (i * length ms + j) ≡ slice_index ms j
modulus_there ms i j h = ap (slice_index ms) (mod-mul-add i (length ms) j h)

pub integral_there : (ms : List ℕ) (integrals : List (List Term)) (i j : ℕ) → j < length ms
    → integral_at ms integrals (i * length ms + j) ≡ get_or integrals i []
integral_there ms integrals i j h = ap (λ q. get_or integrals q []) (div-mul-add i (length ms) j h)

pub residue_there : (p : ProblemView) (residues : List ℕ) (i j : ℕ) → j < length p.moduli
    → slice_index (residues_of p residues i) j ≡ slice_index residues (i * length p.moduli + j)
residue_there p residues i j h =
    get_or-take (length p.moduli) (drop (i * length p.moduli) residues) j 0 h
    ∙ get_or-drop (i * length p.moduli) residues j 0

-- they are those that a fraction is found from
pub residues_for : (p : ProblemView) (residues xs : List ℕ) (i : ℕ) → AreSumResidues p residues → i < length p.integrals
    → xs ≡ residues_of p residues i → length xs ≡ length p.moduli → AreResiduesFor p.moduli xs
residues_for p residues xs i h within e l = record {
  as_many = l;
  below = λ j k.
      subst (λ ys. slice_index ys j < slice_index p.moduli j) (sym e)
      (subst (λ x. x < slice_index p.moduli j) (sym (residue_there p residues i j k))
      (subst (λ m. slice_index residues (i * length p.moduli + j) < m) (modulus_there p.moduli i j k)
      (h.below (i * length p.moduli + j) (place_within p i j within k))));
}

-- ---- the fractions, one after the other
-- the fractions of the first integrals
pub record AreFirstFractions (p : ProblemView) (residues : List ℕ) (count : ℕ) (found : List (Option Fraction)) : Type 0 where
  pub as_many : length found ≡ count
  pub each : (i : ℕ) → i < count
      → IsOnlyFraction p.moduli (residues_of p residues i) p.top_bound p.bottom_bound (get_or found i None)

pub one_more : (p : ProblemView) (residues : List ℕ) (count : ℕ) (found : List (Option Fraction)) (next : Option Fraction)
    → AreFirstFractions p residues count found
    → IsOnlyFraction p.moduli (residues_of p residues count) p.top_bound p.bottom_bound next
    → AreFirstFractions p residues (count + 1) (found ++ next ∷ [])
one_more p residues count found next h only = record {
  as_many = length-append found (next ∷ []) ∙ ap (λ n. n + 1) h.as_many;
  each = λ i l. ⊎_elim (before i) (last i l) (cases_lt i count);
}
  where
    IsRight : ℕ → Option Fraction → Type 0
    IsRight i o = IsOnlyFraction p.moduli (residues_of p residues i) p.top_bound p.bottom_bound o

    before : (i : ℕ) → i < count → IsRight i (get_or (found ++ next ∷ []) i None)
    before i l =
        subst (IsRight i) (sym (get_or_append_left found (next ∷ []) None i (subst (λ n. i < n) (sym h.as_many) l)))
        (h.each i l)

    last : (i : ℕ) → i < count + 1 → count ≤ i → IsRight i (get_or (found ++ next ∷ []) i None)
    last i l k =
        let same : count ≡ i = omega (arith, l, k) in
        subst (λ n. IsRight n (get_or (found ++ next ∷ []) n None)) same
        (subst (IsRight count) (sym (get_or_push found next None count h.as_many)) only)

pub all_fractions : (p : ProblemView) (residues : List ℕ) (count : ℕ) (found : List (Option Fraction))
    → count ≡ length p.integrals
    → AreFirstFractions p residues count found → AreFractions p residues found
all_fractions p residues count found e h = record {
  as_many = h.as_many ∙ e;
  each = λ i l. h.each i (subst (λ n. i < n) (sym e) l);
}
