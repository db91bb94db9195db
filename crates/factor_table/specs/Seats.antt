-- What a table and a seat mean to a caller.
use Rattle.std.specs.Prelude.{◌≡◌, ◌≢◌, ◌⊎◌, ℕ, List, [], ◌∷◌, ◌++◌, Contains, Result}
use Rattle.residue.specs.declared.errors.NoUnit.{NoUnit}
use Rattle.residue.specs.Answers.{GivesResidue}
use Rattle.factor_table.specs.declared.key.Key.{Key}
use Rattle.factor_table.specs.declared.parameters.Parameters.{Parameters}
use Rattle.factor_table.specs.declared.table.Move.{Move}
use Rattle.factor_table.specs.declared.table.Move.TheVariants.{Load, Fill}
use Rattle.factor_table.specs.declared.table.FactorTable.{FactorTable}
use Rattle.factor_table.specs.declared.table.FactorSeat.{FactorSeat}
use Rattle.factor_table.specs.KeyPlaces.{word_place}
use Rattle.factor_table.specs.Factors.{sizes_of, modulus_in, fraction_of}

-- what the factors of the table are of, which no call changes
abbrev pub parameters_of : FactorTable → Parameters
parameters_of t = t.parameters

-- how many words the table has
abbrev pub word_count : FactorTable → ℕ
word_count t = t.table.shared.table_id.words

-- the place of the word of a key for the modulus at an index
abbrev pub place_in : FactorTable → Key → ℕ → ℕ
place_in t key modulus = word_place (sizes_of (parameters_of t)) key modulus

-- the seat is one of this table
abbrev pub IsSeatOf : FactorSeat → FactorTable → Type 0
IsSeatOf s t = (s.seat.table_id ≡ t.table.shared.table_id) × (s.seat.me.0.parameters ≡ t.parameters)

-- the places of the words that the seat knows to be filled, in the order in which it came to know them
abbrev pub known_of : FactorSeat → List ℕ
known_of s = s.seat.me.0.known

-- the seat knows the word of a key for the modulus at an index
abbrev pub Knows : FactorSeat → FactorTable → Key → ℕ → Type 0
Knows s t key modulus = Contains (known_of s) (place_in t key modulus)

-- the answer gives the residue of the factor of a key for the modulus at an index
abbrev pub IsFactorIn : FactorTable → Key → ℕ → Result ℕ NoUnit → Type 0
IsFactorIn t key modulus answer =
    GivesResidue (modulus_in (parameters_of t) modulus) (fraction_of (parameters_of t) key) answer

-- the steps that the seat made, in their order
abbrev pub moves_of : FactorSeat → List Move
moves_of s = s.seat.me.0.moves

-- Between two moments the seat looked once at the word of a place: it loaded it once, and only if it found 0 it made
-- one more step, which exchanged that 0 for a word.
abbrev pub LooksOnce : ℕ → FactorSeat → FactorSeat → Type 0
LooksOnce place before after =
    ((found : ℕ) × (found ≢ 0) × (moves_of after ≡ moves_of before ++ Load place found ∷ []))
    ⊎ (moves_of after ≡ moves_of before ++ Load place 0 ∷ Fill place ∷ [])
