-- The rule of the factor words, which holds between any two steps of all seats.
use Rattle.std.specs.Prelude.{◌≡◌, ◌≢◌, ℕ, zero, suc, ◌<◌, ◌≤◌, ◌⊎◌, true, false, List, [], ◌∷◌, ◌++◌, length, map, take, slice_index, Contains}
use mathlib.Core.Option.{some}
use lib.ListN.{get_elem?}
use Rattle.atomic_table.specs.Table.{State, Me, Step}
use Rattle.arithmetic.specs.Numbers.{reduce}
use Rattle.factor_table.specs.declared.key.Key.{Key}
use Rattle.factor_table.specs.declared.parameters.Parameters.{Parameters}
use Rattle.factor_table.specs.declared.table.Move.{Move}
use Rattle.factor_table.specs.declared.table.Move.TheVariants.{Load, Fill, Split, Join}
use Rattle.factor_table.specs.declared.table.View.{View}
use Rattle.factor_table.specs.KeyPlaces.{first_factor, words_of, word_place}
use Rattle.factor_table.specs.Factors.{parameters, sizes_of, modulus_in, fraction_of, IsKeyOf, IsWordOf}

-- the weights modulo 2^64, and the moduli
abbrev pub first_words : Parameters → List ℕ
first_words p = map (reduce 18446744073709551616) p.setup ++ p.moduli

-- the word is that of a key of the table, at its own place
pub record IsFactorAt (p : Parameters) (place word : ℕ) : Type 0 where
  pub key : Key
  pub modulus : ℕ
  pub is_key : IsKeyOf p key
  pub is_modulus : modulus < length p.moduli
  pub its_place : word_place (sizes_of p) key modulus ≡ place
  pub its_word : IsWordOf (modulus_in p modulus) (fraction_of p key) word

-- a place of a factor word that is filled
abbrev pub IsFilledAt : Parameters → List ℕ → ℕ → Type 0
IsFilledAt p words place = (first_factor (sizes_of p) ≤ place) × (slice_index words place ≢ 0)

-- The rule. The first words hold the weights and the moduli. Each further word is 0, or that of the key of its place.
-- Every view that was not joined away has the parameters, and no word at a place that a view knows is 0.
pub record AreFactors (p : Parameters) (words : List ℕ) (views : List View) : Type 0 where
  pub count : length words ≡ words_of (sizes_of p)
  pub first : take (first_factor (sizes_of p)) words ≡ first_words p
  pub factors : (place : ℕ) → first_factor (sizes_of p) ≤ place
      → (slice_index words place ≡ 0) ⊎ IsFactorAt p place (slice_index words place)
  pub told : (id : ℕ) (v : View) → get_elem? views id ≡ some v → v.joined_away ≡ false → v.parameters ≡ p
  pub known : (id : ℕ) (v : View) → get_elem? views id ≡ some v
      → (place : ℕ) → Contains v.known place → IsFilledAt p words place

abbrev pub TableHolds : {S : Type 0} → Parameters → State S View → Type 0
TableHolds p s = AreFactors p s.words s.views

-- the first seat knows no place
abbrev pub opening_view : Parameters → View
opening_view p = record { parameters = p; known = []; moves = []; joined_away = false }

-- the view after one more step
abbrev pub with_move : View → Move → View
with_move v m = record v { moves = v.moves ++ m ∷ [] }

-- the view after one more step, by which a place became known
abbrev pub with_place : View → ℕ → Move → View
with_place v place m = record v { known = v.known ++ place ∷ []; moves = v.moves ++ m ∷ [] }

-- the view after a load of this place that found this word
abbrev pub looked : View → ℕ → ℕ → View
looked v place zero = with_move v (Load place 0)
looked v place (suc n) = with_place v place (Load place (suc n))

-- A load that finds a word other than 0 makes its place known, and the word is that of the key of its place.
abbrev pub Looks : {S : Type 0} → Step S → Me S View → ℕ → Me S View → Type 0
Looks s me found after =
    (after ≡ (looked me.0 s.word found, me.1))
    × (found ≢ 0 → IsFactorAt me.0.parameters s.word found)

-- A fill, which exchanges 0 for a word, makes its place known, also if another had filled it.
abbrev pub Fills : {S : Type 0} → Step S → Me S View → ℕ → Me S View → Type 0
Fills s me found after = after ≡ (with_place me.0 s.word (Fill s.word), me.1)

-- the view of a seat that was split, and that of the new seat, which knows the same places
abbrev pub divided : View → View
divided v = with_move v Split

abbrev pub new_view : View → View
new_view v = record v { moves = [] }

-- a join adds the places that the second seat knows, and none of its view is left
abbrev pub joined : View → View → View
joined v w = record v { known = v.known ++ w.known; moves = v.moves ++ Join ∷ [] }

abbrev pub spent : View
spent = record { parameters = parameters [] 0 [] []; known = []; moves = []; joined_away = true }
