-- Whether words are a use of a command, word by word.
use Rattle.std.proofs.Common.{◌≡◌, ℕ, zero, suc, ◌-◌, List, [], ◌∷◌, ◌++◌, length, codes, Option, Some, None, Bool, true, false, not, ◌&&◌, ◌||◌, refl, ap, sym, subst, ◌∙◌, arith, drop, take, slice_get, get_or, map, String, Global, string_bytes, ◌≤◌, ◌↔◌, IsTrue}
use Rattle.std.proofs.lemmas.Bool.{false≢true, le-leb}
use Rattle.std.proofs.lemmas.Bool.Decides.{nat_tests}
use Rattle.std.proofs.lemmas.List.{length-drop, take_all}
use Rattle.std.proofs.lemmas.Option.{same_Some}
use Rattle.std.specs.List.{list_all}
use Rattle.std.specs.Prelude.{nat_le}
use Rattle.std.specs.Str.{bytes_eq}
use Rattle.clap.specs.Lexer.{long_of}
use Rattle.clap.specs.Walk.{Text}
use Rattle.command_words.specs.Usages.{Slot, Usage, fits, is_among, is_plain, is_sound_table, different}
use Rattle.command_words.specs.Words.{Item, plain, option, Says, nothing, bare_word, apart, joined, is_empty, names_in, option_fits, options_in, plains_fit, plains_in}
use Rattle.command_words.specs.Rows.{usage_named}
use Rattle.command_words.specs.Told.{has_option, is_only, plain_test, test_by, used_from, value_from}
use Rattle.command_words.specs.Taken.{AreTaken}
use Rattle.command_words.proofs.Bools.{and_both, not_true, plain_step, plain_none}
use Rattle.command_words.proofs.Law.{row_named, row_there, sound_names}
use Rattle.command_words.proofs.Said.{alone_long, alone_word, attached_cut, attached_long, not_empty, plain_long, some_bytes}
use Rattle.command_words.proofs.Top.{name_is}

-- ---- words that say items

-- the items are a use, with these slots left
abbrev is_use_from : List Slot → List Slot → ℕ → List Item → Bool
is_use_from options slots least items =
    (nat_le least (length (plains_in items)) && plains_fit slots (plains_in items))
    && (list_all (option_fits options) (options_in items) && different (names_in (options_in items)))

named : (name : Text) (ws : List Text) (is : List Item) → Says ws is
    → has_option name ws ≡ is_among name (names_in (options_in is))
named name _ _ nothing = refl
named name _ _ (bare_word w ws is e says) = rw (plain_long w e) (named name ws is says)
named name _ _ (apart n value ws is e some v says) =
    rw (alone_long n e some, plain_long value v) (ap (λ b. bytes_eq n name || b) (named name ws is says))
named name _ _ (joined n value ws is e some says) =
    rw (attached_long n value e) (ap (λ b. bytes_eq n name || b) (named name ws is says))

fewer : (least n : ℕ) → nat_le least (suc n) ≡ nat_le (least - 1) n
fewer zero n = le-leb 0 (suc n) (omega arith) ∙ sym (le-leb 0 n (omega arith))
fewer (suc least) n = let same : suc least - 1 ≡ least = omega arith in rw same (grind (arith, nat_tests))

none_left : (b : Bool) → b ≡ ((b && true) && (true && true))
none_left true = refl
none_left false = refl

option_first : (f h a l d : Bool) → ((f && not h) && (a && (l && d))) ≡ (a && ((f && l) && (not h && d)))
option_first true true true true d = refl
option_first true true true false d = refl
option_first true true false l d = refl
option_first true false a l d = refl
option_first false h true l d = refl
option_first false h false l d = refl

option_told : (options slots : List Slot) (least : ℕ) (name value : Text) (ws : List Text) (is : List Item)
    → has_option name ws ≡ is_among name (names_in (options_in is))
    → used_from options ws slots least ≡ is_use_from options slots least is
    → (is_only options name value ws && used_from options ws slots least)
    ≡ is_use_from options slots least (option name value ∷ is)
option_told options slots least name value ws is n e =
    rw (n, e) (option_first (option_fits options (name, value)) (is_among name (names_in (options_in is))) _ _ _)

plain_told : (options slots : List Slot) (least : ℕ) (w : Text) (ws : List Text) (is : List Item) → is_plain w ≡ true
    → ((slots : List Slot) (least : ℕ) → used_from options ws slots least ≡ is_use_from options slots least is)
    → plain_test w (used_from options ws) slots least ≡ is_use_from options slots least (plain w ∷ is)
plain_told options [] least w ws is p e = plain_none (nat_le least (suc (length (plains_in is)))) _
plain_told options (s ∷ slots) least w ws is p e =
    rw (p, e slots (least - 1), fewer least (length (plains_in is))) (plain_step (fits s.limit w) _ _ _)

told : (options : List Slot) (ws : List Text) (is : List Item) → Says ws is → (slots : List Slot) (least : ℕ)
    → used_from options ws slots least ≡ is_use_from options slots least is
told options _ _ nothing slots least = none_left (nat_le least 0)
told options _ _ (bare_word w ws is e says) slots least =
    rw (plain_long w e) (plain_told options slots least w ws is e (told options ws is says))
told options _ _ (apart name value ws is e some v says) slots least =
    rw (alone_long name e some, v)
    (option_told options slots least name value ws is (named name ws is says) (told options ws is says slots least))
told options _ _ (joined name value ws is e some says) slots least =
    rw (attached_long name value e, not_empty value some)
    (option_told options slots least name value ws is (named name ws is says) (told options ws is says slots least))

-- ---- words that pass say something

record SaysSome (options : List Slot) (ws : List Text) : Type 0 where
  at_word : (slots : List Slot) (least : ℕ) → used_from options ws slots least ≡ true → (is : List Item) × Says ws is
  at_value : (name : Text) (slots : List Slot) (least : ℕ) → value_from options ws name slots least ≡ true
      → (v : Text) × (tail : List Text) × (is : List Item) × (ws ≡ v ∷ tail) × (is_plain v ≡ true) × Says tail is

plain_passed : (options slots : List Slot) (least : ℕ) (w : Text) (ws : List Text) → SaysSome options ws
    → plain_test w (used_from options ws) slots least ≡ true → (is : List Item) × Says (w ∷ ws) is
plain_passed options [] least w ws behind e = absurd (false≢true e)
plain_passed options (s ∷ slots) least w ws behind e =
    let (p, next) = and_both (is_plain w) _ e in
    let (is, says) = behind.at_word slots (least - 1) (and_both (fits s.limit w) _ next).1 in
    (plain w ∷ is, bare_word w ws is p says)

word_step : (options : List Slot) (l : Option (Text × Option Text)) (w : Text) (ws : List Text) (slots : List Slot) (least : ℕ)
    → long_of w ≡ l → SaysSome options ws
    → test_by l options w ws (used_from options ws) (value_from options ws) slots least ≡ true
    → (is : List Item) × Says (w ∷ ws) is
word_step options None w ws slots least lw behind e = plain_passed options slots least w ws behind e
word_step options (Some (name, Some value)) w ws slots least lw behind e =
    let (some, next) = and_both (not (is_empty value)) _ e in
    let (is, says) = behind.at_word slots least (and_both (is_only options name value ws) _ next).1 in
    let (same, is_name) = attached_cut w name value lw in (
      option name value ∷ is,
      subst (λ v. Says (v ∷ ws) (option name value ∷ is)) (sym same)
          (joined name value ws is is_name (some_bytes value (not_true _ some)) says),
    )
word_step options (Some (name, None)) w ws slots least lw behind e =
    let (v, tail, is, split, p, says) = behind.at_value name slots least e in
    let (same, is_name, some) = alone_word w name lw in (
      option name v ∷ is,
      subst (λ u. Says (u ∷ ws) (option name v ∷ is)) (sym same)
          (subst (λ us. Says ((codes "--" ++ name) ∷ us) (option name v ∷ is)) (sym split) (apart name v tail is is_name some p says)),
    )

says_some : (options : List Slot) (ws : List Text) → SaysSome options ws
says_some options [] = record {
  at_word = λ slots least e. ([], nothing);
  at_value = λ name slots least e. absurd (false≢true e);
}
says_some options (w ∷ ws) =
    let behind = says_some options ws in
    record {
      at_word = λ slots least e. word_step options (long_of w) w ws slots least refl behind e;
      at_value = λ name slots least e.
          let (p, next) = and_both (is_plain w) _ e in
          let (is, says) = behind.at_word slots least (and_both (is_only options name w ws) _ next).1 in
          (w, ws, is, refl, p, says);
    }

-- ---- whether words are taken

pub is_taken : (table : List Usage) (first word : Text) (ws : List Text) (u : Usage) → usage_named table word ≡ Some u
    → used_from u.options ws u.plains u.least ≡ true → AreTaken table (first ∷ word ∷ ws)
is_taken table first word ws u row e =
    let (items, says) = (says_some u.options ws).at_word u.plains u.least e in (
      u,
      items,
      record {
        first = first;
        rest = ws;
        split = ap (λ w. first ∷ w ∷ ws) (sym (name_is table word u row));
        row = row_there table word u row;
        says = says;
        allowed = sym (told u.options ws items says u.plains u.least) ∙ e;
      },
    )

-- a use of a command is of the row of its name
pub taken_by : (table : List Usage) (first word : Text) (ws : List Text) → is_sound_table table ≡ true
    → AreTaken table (first ∷ word ∷ ws)
    → (u : Usage) × (usage_named table word ≡ Some u) × (used_from u.options ws u.plains u.least ≡ true)
taken_by table first word ws sound (u, items, h) =
    let same : word ≡ u.name = same_Some word u.name (ap (λ vs. slice_get vs 1) h.split) in
    let rest : ws ≡ h.rest = ap (drop 2) h.split in (
      u,
      ap (usage_named table) same ∙ row_named table u (sound_names table sound).1 h.row,
      ap (λ vs. used_from u.options vs u.plains u.least) rest
          ∙ told u.options h.rest items h.says u.plains u.least
          ∙ h.allowed,
    )

pub not_taken_unnamed : (table : List Usage) (first word : Text) (ws : List Text) → is_sound_table table ≡ true
    → usage_named table word ≡ None → ¬ AreTaken table (first ∷ word ∷ ws)
not_taken_unnamed table first word ws sound none taken =
    let (u, row, used) = taken_by table first word ws sound taken in
    let wrong : None ≡ Some u = sym none ∙ row in
    cc

pub used_if_taken : (table : List Usage) (first word : Text) (ws : List Text) (u : Usage) → is_sound_table table ≡ true
    → usage_named table word ≡ Some u → AreTaken table (first ∷ word ∷ ws)
    → used_from u.options ws u.plains u.least ≡ true
used_if_taken table first word ws u sound row taken =
    let (v, named, used) = taken_by table first word ws sound taken in
    subst (λ (x : Usage). used_from x.options ws x.plains x.least ≡ true) (same_Some v u (sym named ∙ row)) used

-- ---- words as they are given

cut_words : (words : List (String Global)) (w : String Global) → 2 ≤ length words → w ≡ get_or words 1 w
    → (first : Text) × (map string_bytes words ≡ first ∷ string_bytes w ∷ map string_bytes (drop 2 words))
cut_words [] w some is = absurd (omega (arith, some))
cut_words (a ∷ []) w some is = absurd (omega (arith, some))
cut_words (a ∷ b ∷ words) w some is = (string_bytes a, ap (λ v. string_bytes a ∷ string_bytes v ∷ map string_bytes words) (sym is))

abbrev behind_two : List (String Global) → List Text
behind_two words = map string_bytes (take (length words - 2) (drop 2 words))

all_behind : (words : List (String Global)) → behind_two words ≡ map string_bytes (drop 2 words)
all_behind words = ap (map string_bytes) (take_all (length words - 2) (drop 2 words) (omega (arith, length-drop 2 words)))

pub told_of_row : (table : List Usage) (words : List (String Global)) (w : String Global) (u : Usage) (b : Bool)
    → is_sound_table table ≡ true → 2 ≤ length words → w ≡ get_or words 1 w
    → usage_named table (string_bytes w) ≡ Some u
    → b ≡ used_from u.options (behind_two words) u.plains u.least
    → IsTrue b ↔ AreTaken table (map string_bytes words)
told_of_row table words w u b sound some is row told =
    let (first, cut) = cut_words words w some is in
    let rest = map string_bytes (drop 2 words) in
    let used : b ≡ used_from u.options rest u.plains u.least =
    told ∙ ap (λ ws. used_from u.options ws u.plains u.least) (all_behind words) in (
      λ e. subst (AreTaken table) (sym cut) (is_taken table first (string_bytes w) rest u row (sym used ∙ e)),
      λ taken. used ∙ used_if_taken table first (string_bytes w) rest u sound row (subst (AreTaken table) cut taken),
    )

pub told_of_none : (table : List Usage) (words : List (String Global)) (w : String Global)
    → is_sound_table table ≡ true → 2 ≤ length words → w ≡ get_or words 1 w
    → usage_named table (string_bytes w) ≡ None → IsTrue false ↔ AreTaken table (map string_bytes words)
told_of_none table words w sound some is none =
    let (first, cut) = cut_words words w some is in
    let rest = map string_bytes (drop 2 words) in (
      λ e. absurd (false≢true e),
      λ taken. absurd (not_taken_unnamed table first (string_bytes w) rest sound none (subst (AreTaken table) cut taken)),
    )
