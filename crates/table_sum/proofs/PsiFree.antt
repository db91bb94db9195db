-- A term whose classes are no psi classes has no exponents.
use Rattle.std.proofs.Common.{◌≡◌, ℕ, ◌+◌, Bool, true, false, List, [], ◌∷◌, sum_by, refl, sym, ap₂, ◌∙◌}
use Rattle.std.specs.Bool.{OnTrue}
use Rattle.std.proofs.lemmas.Bool.{and_parts}
use Rattle.std.proofs.lemmas.List.Sums.{sum-map, sum_by-cons}
use Rattle.classes.specs.declared.class.Class.{Class}
use Rattle.classes.specs.declared.class.Class.TheVariants.{Mark, Hypersurface, Incidence, R1, Contact, Psi}
use Rattle.classes.specs.declared.class.Power.{Power}
use Rattle.classes.specs.declared.class.Term.{Term}
use Rattle.localisation.specs.ClassValue.{psi_power}
use Rattle.regrouping.specs.TermParts.{IsPsiFree}
use Rattle.table_sum.specs.Classes.{is_other, are_others}

no_power : (j n : ℕ) (class : Class) → is_other class ≡ true → psi_power j (record { class = class; power = n }) ≡ 0
no_power j n (Mark i) h = refl
no_power j n (Hypersurface b) h = refl
no_power j n (Incidence q) h = refl
no_power j n (R1 k) h = refl
no_power j n Contact h = refl
no_power j n (Psi i) h = cc

no_powers : (j : ℕ) (ps : List Power) → are_others ps ≡ true → sum_by (psi_power j) ps ≡ 0
no_powers j [] h = refl
no_powers j (p ∷ ps) h =
    let two = and_parts (is_other p.class) (are_others ps) h in
    sum_by-cons (psi_power j) p ps ∙ ap₂ (λ x y. x + y) (no_power j p.power p.class two.0) (no_powers j ps two.1)

pub free_if : (term : Term) (b : Bool) → b ≡ are_others term.classes → OnTrue b (IsPsiFree term)
free_if term true e = λ j. sum-map (psi_power j) term.classes ∙ no_powers j term.classes (sym e)
free_if term false e = tt
