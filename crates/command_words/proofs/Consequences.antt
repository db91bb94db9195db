-- What follows from the definition of the arguments that are accepted.
use Rattle.std.proofs.Common.{◌≡◌, ◌≤◌, ◌<◌, ◌^◌, ℕ, List, ◌∷◌, drop, Some, true, slice_get, sym, ap, ◌∙◌, refl, arith}
use Rattle.std.proofs.lemmas.Option.{same_Some}
use Rattle.std.proofs.lemmas.Bool.{leb-true, ltb-true, le-leb}
use Rattle.std.specs.Prelude.{nat_le, nat_lt}
use Rattle.std.specs.Str.Parse.{digits_value, without_leading_plus}
use Rattle.clap.specs.ValueTests.{is_numeral, is_unsigned_in}
use Rattle.clap.specs.Walk.{Text}
use Rattle.command_words.specs.Usages.{Usage, is_sound_table}
use Rattle.command_words.specs.Words.{AreRefusedFirst, Item, number_in}
use Rattle.command_words.specs.Rows.{usage_named}
use Rattle.command_words.specs.Taken.{AreTaken, IsUse}
use Rattle.command_words.proofs.Items.{items_of}
use Rattle.command_words.proofs.Law.{row_named, sound_names, taken_passes}
use Rattle.command_words.proofs.Said.{said}
use Rattle.command_words.proofs.Bools.{and_both}

-- no list of arguments is a use of two commands, or in two ways
pub one_use : (table : List Usage) (words : List Text) (u v : Usage) (items others : List Item)
    → is_sound_table table ≡ true → IsUse table words u items → IsUse table words v others → (u ≡ v) × (items ≡ others)
one_use table words u v items others sound h k =
    let both : (h.first ∷ u.name ∷ h.rest) ≡ (k.first ∷ v.name ∷ k.rest) = sym h.split ∙ k.split in
    let same : u.name ≡ v.name = same_Some u.name v.name (ap (λ ws. slice_get ws 1) both) in
    let rest : h.rest ≡ k.rest = ap (drop 2) both in
    let differ = (sound_names table sound).1 in (
      same_Some u v (sym (row_named table u differ h.row) ∙ ap (usage_named table) same ∙ row_named table v differ k.row),
      same_Some items others (sym (said h.rest items h.says) ∙ ap items_of rest ∙ said k.rest others k.says),
    )

-- arguments that are accepted are not refused at the first look
pub taken_not_refused : (table : List Usage) (words : List Text) → is_sound_table table ≡ true → AreTaken table words
    → ¬ AreRefusedFirst words
taken_not_refused table words sound taken refused =
    let both = sym (taken_passes table words sound taken) ∙ refused in cc

-- a value within a limit for numbers is a number within it
pub number_within : (low high : ℕ) (value : Text) → is_unsigned_in low high value ≡ true
    → (n : ℕ) × (number_in value ≡ Some n) × (low ≤ n) × (n ≤ high)
number_within low high value e =
    let n = digits_value 10 (without_leading_plus value) in
    let (numeral, rest) = and_both (is_numeral (without_leading_plus value)) _ e in
    let (small, within) = and_both (nat_lt n (2 ^ 64)) _ rest in
    let (least, most) = and_both (nat_le low n) _ within in
    let below : n < 2 ^ 64 = ltb-true n (2 ^ 64) small in
    let few : nat_le n 18446744073709551615 ≡ true = le-leb n 18446744073709551615 (omega arith) in
    let none : nat_le 0 n ≡ true = le-leb 0 n (omega arith) in
    (n, rw (numeral, small, none, few) refl, leb-true low n least, leb-true n high most)
