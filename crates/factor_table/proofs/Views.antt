-- What the rule says of one view, and of all views after a step.
use Rattle.std.proofs.Common.{◌≡◌, ◌≢◌, ℕ, zero, suc, ⊎_elim, false, List, [], ◌∷◌, ◌++◌, set, get_or, Contains, sym, refl, subst, arith}
use Rattle.std.proofs.lemmas.List.Elements.{Contains-push_cases, Contains-append_cases}
use mathlib.Core.Option.{some, some-injective, some-ne-none}
use lib.ListN.{get_elem?}
use Rattle.atomic_table.proofs.Lists.{at_set, at_snoc}
use Rattle.factor_table.specs.declared.parameters.Parameters.{Parameters}
use Rattle.factor_table.specs.declared.table.Move.{Move}
use Rattle.factor_table.specs.declared.table.Move.TheVariants.{Load}
use Rattle.factor_table.specs.declared.table.View.{View}
use Rattle.factor_table.specs.Rule.{AreFactors, IsFilledAt, with_place, looked, joined, spent, opening_view}

-- what the rule says of one view
pub record Fits (p : Parameters) (words : List ℕ) (v : View) : Type 0 where
  pub told : v.joined_away ≡ false → v.parameters ≡ p
  pub known : (place : ℕ) → Contains v.known place → IsFilledAt p words place

-- each view fits
abbrev pub AllFit : Parameters → List ℕ → List View → Type 0
AllFit p words views = (id : ℕ) (v : View) → get_elem? views id ≡ some v → Fits p words v

pub all_fit : (p : Parameters) (words : List ℕ) (views : List View) → AreFactors p words views → AllFit p words views
all_fit p words views h id v at = record { told = h.told id v at; known = h.known id v at }

pub after_set : (p : Parameters) (words : List ℕ) (views : List View) (id : ℕ) (w : View) → AllFit p words views
    → Fits p words w → AllFit p words (set views id w)
after_set p words views id w old new j u e =
    ⊎_elim (λ (x : (j ≡ id) × (w ≡ u)). subst (Fits p words) x.1 new)
    (λ (x : (j ≢ id) × (get_elem? views j ≡ some u)). old j u x.1) (at_set views id j w u e)

pub after_snoc : (p : Parameters) (words : List ℕ) (views : List View) (w : View) → AllFit p words views
    → Fits p words w → AllFit p words (views ++ w ∷ [])
after_snoc p words views w old new j u e =
    ⊎_elim (λ (x : get_elem? views j ≡ some u). old j u x) (λ (is : w ≡ u). subst (Fits p words) is new)
    (at_snoc views w u j e)

pub only_view : (p : Parameters) (words : List ℕ) (w : View) → Fits p words w → AllFit p words (w ∷ [])
only_view p words w new zero u e = subst (Fits p words) (some-injective w u e) new
only_view p words w new (suc j) u e = absurd (some-ne-none u (sym e))

-- the rule does not depend on the steps that a view lists
pub fits_moves : (p : Parameters) (words : List ℕ) (v : View) (moves : List Move) → Fits p words v
    → Fits p words (record v { moves = moves })
fits_moves p words v moves f = record { told = f.told; known = f.known }

-- one place more, which is filled
pub fits_place : (p : Parameters) (words : List ℕ) (v : View) (place : ℕ) (m : Move) → Fits p words v
    → IsFilledAt p words place → Fits p words (with_place v place m)
fits_place p words v place m f filled = record {
  told = f.told;
  known = λ x there. ⊎_elim (f.known x) (λ (is : place ≡ x). subst (IsFilledAt p words) is filled) (Contains-push_cases v.known place x there);
}

pub fits_looked : (p : Parameters) (words : List ℕ) (v : View) (place n : ℕ) → Fits p words v
    → (n ≢ 0 → IsFilledAt p words place) → Fits p words (looked v place n)
fits_looked p words v place zero f filled = fits_moves p words v (v.moves ++ Load place 0 ∷ []) f
fits_looked p words v place (suc n) f filled =
    fits_place p words v place (Load place (suc n)) f (filled (λ h. omega arith))

pub fits_joined : (p : Parameters) (words : List ℕ) (v w : View) → Fits p words v → Fits p words w
    → Fits p words (joined v w)
fits_joined p words v w f g = record { told = f.told; known = λ x there. ⊎_elim (f.known x) (g.known x) (Contains-append_cases v.known w.known x there) }

nothing_known : (p : Parameters) (words : List ℕ) (place : ℕ) → Contains {X = ℕ} [] place → IsFilledAt p words place
nothing_known p words place there = let none = there.1 in absurd (omega arith)

pub fits_spent : (p : Parameters) (words : List ℕ) → Fits p words spent
fits_spent p words = record { told = λ h. cc; known = nothing_known p words }

pub fits_opening : (p : Parameters) (words : List ℕ) → Fits p words (opening_view p)
fits_opening p words = record { told = λ h. refl; known = nothing_known p words }

-- what is filled stays filled if no word becomes 0
pub fits_still : (p : Parameters) (words after : List ℕ) (v : View)
    → ((place : ℕ) → get_or words place 0 ≢ 0 → get_or after place 0 ≢ 0) → Fits p words v → Fits p after v
fits_still p words after v stays f = record { told = f.told; known = λ x there. let filled = f.known x there in (filled.0, stays x filled.1) }
