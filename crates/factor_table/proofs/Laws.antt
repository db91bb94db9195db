-- What the rule says of a key's word.
use Rattle.std.proofs.Common.{◌≡◌, ℕ, ◌<◌, ⊎_elim, List, length, get_or, Contains, subst}
use mathlib.Core.Option.{some}
use lib.ListN.{get_elem?}
use Rattle.factor_table.specs.declared.key.Key.{Key}
use Rattle.factor_table.specs.declared.parameters.Parameters.{Parameters}
use Rattle.factor_table.specs.declared.table.View.{View}
use Rattle.factor_table.specs.KeyPlaces.{IsKeyWithin, word_place}
use Rattle.factor_table.specs.Factors.{sizes_of, modulus_in, fraction_of, HasFraction, IsKeyOf, IsWordOf}
use Rattle.factor_table.specs.Rule.{AreFactors, IsFactorAt}
use Rattle.factor_table.proofs.OneToOne.{place_from, one_to_one}
use Rattle.factor_table.proofs.Keys.{found}
use Rattle.factor_table.proofs.Moves.{factor_found}

-- a word that a view knows is that of its key, and not 0
pub known_word : (p : Parameters) (words : List ℕ) (views : List View) (id : ℕ) (v : View) (key : Key) (m : ℕ)
    → AreFactors p words views → get_elem? views id ≡ some v
    → IsKeyOf p key → m < length p.moduli → Contains v.known (word_place (sizes_of p) key m)
    → IsWordOf (modulus_in p m) (fraction_of p key) (get_or words (word_place (sizes_of p) key m) 0)
known_word p words views id v key m h at is_key is_modulus there =
    let place : ℕ = word_place (sizes_of p) key m in let filled = h.known id v at place there in
    found p key m place (get_or words place 0) is_key is_modulus (λ _. place)
    (factor_found p place (get_or words place 0) (h.factors place filled.0) filled.1)

-- the word of a key that has no fraction, as that of a class without parts, stays 0
pub stays_zero : (p : Parameters) (words : List ℕ) (views : List View) (key : Key) (m : ℕ) → AreFactors p words views
    → IsKeyWithin (sizes_of p) key → ¬ (HasFraction p key)
    → get_or words (word_place (sizes_of p) key m) 0 ≡ 0
stays_zero p words views key m h within none =
    let place : ℕ = word_place (sizes_of p) key m in
    ⊎_elim (λ zero_there. zero_there)
    (λ (f : IsFactorAt p place (get_or words place 0)).
    let same = one_to_one (sizes_of p) f.key key f.modulus m f.is_key.within within f.its_place in
    absurd (none (subst (HasFraction p) same.0 f.is_key.has_fraction)))
    (h.factors place (place_from (sizes_of p) key m))
