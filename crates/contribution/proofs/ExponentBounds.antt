-- The exponent of a mark is at most the sum of all powers.
use Rattle.std.proofs.Common.{◌≡◌, ℕ, ◌≤◌, Bool, true, false, ◌==◌, if◌then◌else◌, List, map, sum, sum_by, All, IsTrue, ◌↔◌, refl, sym, subst, ◌<◌, length, arith}
use Rattle.std.specs.Bool.{OnTrue}
use Rattle.std.proofs.lemmas.List.Elements.{All-weaker}
use Rattle.std.proofs.lemmas.List.Sums.{sum-map, sum_by-le-sum_by}
use Rattle.residue.specs.declared.class.Class.{Class}
use Rattle.residue.specs.declared.class.Class.TheVariants.{Mark, Hypersurface, Incidence, R1, Contact, Psi}
use Rattle.residue.specs.declared.class.Power.{Power}
use Rattle.residue.specs.declared.class.Term.{Term}
use Rattle.residue.specs.Classes.{IsPowerFor}
use Rattle.contribution.specs.Terms.{IsTermFor, IsBoundedTerm}
use Rattle.localisation.specs.ClassValue.{psi_power}

chosen : (b : Bool) (n : ℕ) → (if b then n else 0) ≤ n
chosen true n = omega arith
chosen false n = omega arith

one_power : (j n : ℕ) (class : Class) → psi_power j (record { class = class; power = n }) ≤ n
one_power j n (Mark i) = omega arith
one_power j n (Hypersurface b) = omega arith
one_power j n (Incidence q) = omega arith
one_power j n (R1 k) = omega arith
one_power j n Contact = omega arith
one_power j n (Psi i) = chosen (i == j) n

pub exponent_within : (ps : List Power) (j : ℕ) → sum (map (psi_power j) ps) ≤ sum_by (λ (p : Power). p.power) ps
exponent_within ps j =
    rw (sum-map (psi_power j) ps) (sum_by-le-sum_by (psi_power j) (λ (p : Power). p.power) ps (λ p. one_power j p.power p.class))

-- if the powers together are at most 151, so is each exponent
pub bounded_is_for : (m : ℕ) (term : Term) → IsBoundedTerm m term → IsTermFor m term
bounded_is_for m term h = record {
  classes = h.classes;
  exponents = λ j. let one = exponent_within term.classes j in let most = h.powers in omega (arith, one, most);
}

pub bounded : (b : Bool) (m : ℕ) (term : Term) (ps : List Power) (whole : ℕ) → ps ≡ term.classes → length ps ≤ 16
    → whole ≡ sum_by (λ (p : Power). p.power) ps → whole ≤ 151 → (IsTrue b ↔ All (IsPowerFor m) ps)
    → IsTrue b ↔ IsBoundedTerm m term
bounded b m term ps whole e few f most h = (
  λ t. record {
    few = subst (λ qs. length qs ≤ 16) e few;
    powers = subst (λ qs. sum_by (λ (p : Power). p.power) qs ≤ 151) e (rw (← f) most);
    classes = subst (All (IsPowerFor m)) e (h.0 t);
  },
  λ t. h.1 (subst (All (IsPowerFor m)) (sym e) t.classes),
)

pub too_many : (m : ℕ) (term : Term) (ps : List Power) → ps ≡ term.classes → 16 < length ps
    → IsTrue false ↔ IsBoundedTerm m term
too_many m term ps e many = (λ t. cc, λ t. absurd (let few = subst (λ qs. length qs ≤ 16) (sym e) t.few in omega arith))

pub too_high : (m : ℕ) (term : Term) (ps : List Power) (whole : ℕ) → ps ≡ term.classes
    → whole ≡ sum_by (λ (p : Power). p.power) ps → 151 < whole
    → IsTrue false ↔ IsBoundedTerm m term
too_high m term ps whole e f high =
    (λ t. cc, λ t. absurd (let low = subst (λ qs. sum_by (λ (p : Power). p.power) qs ≤ 151) (sym e) t.powers in omega arith))

pub enough : (b : Bool) (m : ℕ) (term : Term) → (IsTrue b ↔ IsBoundedTerm m term) → OnTrue b (IsTermFor m term)
enough true m term h = bounded_is_for m term (h.0 refl)
enough false m term h = tt

pub enough_each : (b : Bool) (m : ℕ) (terms : List Term) → (IsTrue b ↔ All (IsBoundedTerm m) terms)
    → OnTrue b (All (IsTermFor m) terms)
enough_each true m terms h = All-weaker (IsBoundedTerm m) (IsTermFor m) (bounded_is_for m) terms (h.0 refl)
enough_each false m terms h = tt
