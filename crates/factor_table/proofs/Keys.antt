-- The word at the place of a key.
use Rattle.std.proofs.Common.{◌≡◌, ℕ, ◌<◌, ◌≤◌, length, Result, Some, sym, ap, ◌∙◌, subst, arith}
use Rattle.std.specs.List.{slice_get}
use Rattle.std.proofs.lemmas.Option.{get_or_from_slice_get}
use Rattle.residue.specs.declared.errors.NoUnit.{NoUnit}
use Rattle.classes.specs.declared.class.Class.{Class}
use Rattle.classes.specs.declared.class.Class.TheVariants.{Contact}
use Rattle.residue.specs.Answers.{GivesResidue}
use Rattle.factor_table.specs.declared.key.Key.{Key}
use Rattle.factor_table.specs.declared.layout.Sizes.{Sizes}
use Rattle.factor_table.specs.declared.parameters.Parameters.{Parameters}
use Rattle.factor_table.specs.KeyPlaces.{AreWithinLimits, first_factor, words_of, word_place}
use Rattle.factor_table.specs.Factors.{sizes_of, modulus_in, class_at, fraction_of, IsKeyOf, IsWordOf, answer_word}
use Rattle.factor_table.specs.Rule.{IsFactorAt}
use Rattle.factor_table.proofs.OneToOne.{place_from, place_below, one_to_one}
use Rattle.factor_table.proofs.Words.{word_of_answer}

pub from_first : (p : Parameters) (key : Key) (m place : ℕ) → place ≡ word_place (sizes_of p) key m
    → first_factor (sizes_of p) ≤ place
from_first p key m place e = subst (λ n. first_factor (sizes_of p) ≤ n) (sym e) (place_from (sizes_of p) key m)

pub below_count : (p : Parameters) (key : Key) (m place : ℕ) → IsKeyOf p key → m < length p.moduli
    → place ≡ word_place (sizes_of p) key m → place < words_of (sizes_of p)
below_count p key m place k lt e =
    subst (λ n. n < words_of (sizes_of p)) (sym e) (place_below (sizes_of p) key m k.within lt)

-- the word of the answer for a key is one for its place
pub written : (p : Parameters) (key : Key) (m place word modulo : ℕ) (answer : Result ℕ NoUnit) → IsKeyOf p key
    → m < length p.moduli → place ≡ word_place (sizes_of p) key m
    → slice_get p.moduli m ≡ Some modulo → GivesResidue modulo (fraction_of p key) answer → word ≡ answer_word answer
    → IsFactorAt p place word
written p key m place word modulo answer k lt at get gives is =
    let here : IsWordOf modulo (fraction_of p key) (answer_word answer) =
    word_of_answer modulo (fraction_of p key) answer gives in
    let now : IsWordOf (modulus_in p m) (fraction_of p key) (answer_word answer) = subst (λ n. IsWordOf n (fraction_of p key) (answer_word answer)) (sym (get_or_from_slice_get p.moduli m modulo 0 get)) here in record {
      key = key;
      modulus = m;
      is_key = k;
      is_modulus = lt;
      its_place = sym at;
      its_word = subst (λ w. IsWordOf (modulus_in p m) (fraction_of p key) w) (sym is) now;
    }

-- a word found at the place of a key is that of the key
pub found : (p : Parameters) (key : Key) (m place word : ℕ) → IsKeyOf p key → m < length p.moduli
    → place ≡ word_place (sizes_of p) key m → IsFactorAt p place word → IsWordOf (modulus_in p m) (fraction_of p key) word
found p key m place word k lt at f =
    let same = one_to_one (sizes_of p) f.key key f.modulus m f.is_key.within k.within (f.its_place ∙ at) in
    subst (λ n. IsWordOf (modulus_in p n) (fraction_of p key) word) same.1
    (subst (λ l. IsWordOf (modulus_in p f.modulus) (fraction_of p l) word) same.0 f.its_word)

pub class_there : (p : Parameters) (index : ℕ) (class : Class) → slice_get p.classes index ≡ Some class
    → class_at p index ≡ class
class_there p index class get = get_or_from_slice_get p.classes index class Contact get

-- a table has a word
pub some_word : (p : Parameters) (s : Sizes) (n : ℕ) → AreWithinLimits s → s ≡ sizes_of p → n ≡ words_of (sizes_of p)
    → 0 < n
unfolding words_of
some_word p s n limits same count =
    let colours : s.colours ≡ length p.setup = ap (λ (t : Sizes). t.colours) same in
    let some_colour = limits.some_colour in omega arith
