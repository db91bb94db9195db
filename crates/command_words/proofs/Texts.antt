-- Words that are text, and pass the first look.
use Rattle.std.proofs.Common.{◌≡◌, ℕ, ◌<◌, ◌==◌, List, [], ◌∷◌, length, Some, None, Bool, true, false, String, Global, string_bytes, map, refl, lit<, arith}
use Rattle.std.proofs.lemmas.Option.{same_Some}
use Rattle.std.proofs.lemmas.Str.{encodes-chars, IsUtf8-drop, IsCharBoundary-after_ascii, IsUtf8-string_bytes}
use Rattle.std.specs.Bool.{if◌then◌else◌}
use Rattle.std.specs.Cmp.{unsigned_Decides}
use Rattle.std.specs.List.{list_any}
use Rattle.std.specs.Prelude.{encode_utf8_all, option_and_then, slice_get}
use Rattle.std.specs.Str.{IsUtf8, chars}
use Rattle.clap.specs.Lexer.{short_of, short_of_rest}
use Rattle.clap.specs.Walk.{Text}
use Rattle.command_words.specs.Words.{is_refused_first}
use Rattle.command_words.proofs.Passing.{AreWords, IsWord}
use Rattle.command_words.proofs.Bools.{or_false}

first_of : (cs bs : List ℕ) → encode_utf8_all cs ≡ bs → 0 < length bs → (c : ℕ) × (slice_get cs 0 ≡ Some c)
first_of [] bs e some = let none : 0 < 0 = rw (← e) at some in absurd (omega arith)
first_of (c ∷ cs) bs e some = (c, refl)

first_char : (bs : List ℕ) → IsUtf8 bs → 0 < length bs → (c : ℕ) × (slice_get (chars bs) 0 ≡ Some c)
first_char bs utf8 some = first_of (chars bs) bs (encodes-chars bs utf8) some

rest_flags : (xs flags : Text) → short_of_rest xs ≡ Some flags → (xs ≡ flags) × (0 < length flags)
rest_flags [] flags e = cc
rest_flags (y ∷ ys) flags e = by_test (y == 45) e
  where
    by_test : (b : Bool) → (if b then None else Some (y ∷ ys)) ≡ Some flags → (y ∷ ys ≡ flags) × (0 < length flags)
    by_test true e = cc
    by_test false e = let same = same_Some (y ∷ ys) flags e in (same, rw (← same) (omega arith))

flag_text : (w flags : Text) → short_of w ≡ Some flags → (w ≡ 45 ∷ flags) × (0 < length flags)
flag_text [] flags e = cc
flag_text (x ∷ xs) flags e = by_test (x == 45) refl e
  where
    by_test : (b : Bool) → (x == 45) ≡ b → option_and_then short_of_rest (if b then Some xs else None) ≡ Some flags
        → (x ∷ xs ≡ 45 ∷ flags) × (0 < length flags)
    by_test true t e =
        let rest = rest_flags xs flags e in
        let here : x ≡ 45 = (unsigned_Decides x 45).0 t in
        (rw (here, rest.0) refl, rest.1)
    by_test false t e = cc

flags_utf8 : (flags : Text) → IsUtf8 (45 ∷ flags) → IsUtf8 flags
flags_utf8 flags utf8 =
    IsUtf8-drop (45 ∷ flags) 1 utf8 (IsCharBoundary-after_ascii (45 ∷ flags) 0 utf8 (omega arith) (lit< tt))

is_word : (w : Text) → IsUtf8 w → is_refused_first w ≡ false → IsWord w
is_word w utf8 passes = record {
  not_dashes = (or_false _ _ (or_false _ _ passes).0).1;
  flagged = λ flags e. let (same, some) = flag_text w flags e in first_char flags (flags_utf8 flags (rw same at utf8)) some;
}

pub are_words : (words : List (String Global)) → list_any (λ w. is_refused_first (string_bytes w)) words ≡ false
    → AreWords (map string_bytes words)
are_words [] passes = tt
are_words (w ∷ ws) passes =
    let (here, more) = or_false _ _ passes in
    (is_word (string_bytes w) (IsUtf8-string_bytes w) here, are_words ws more)
