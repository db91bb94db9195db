-- What clap takes is what the table takes.
use Rattle.std.proofs.Common.{◌≡◌, ◌≢◌, zero, suc, List, [], ◌∷◌, drop, Option, Some, None, Bool, true, false, ◌&&◌, ◌||◌, String, Global, string_bytes, map, refl, sym, ap, subst, ◌∙◌, cond, arith}
use Rattle.std.specs.Prelude.{length, not, nat_lt}
use Rattle.std.proofs.lemmas.Bool.{false≢true}
use Rattle.std.proofs.lemmas.Option.{same_Some}
use Rattle.std.proofs.lemmas.Slice.Eq.{bytes_eq-Decides}
use Rattle.std.specs.List.{Contains, list_all, list_any}
use Rattle.std.specs.Option.{option_map_or}
use Rattle.std.specs.Str.{bytes_eq}
use Rattle.clap.specs.Faults.{fault_of}
use Rattle.clap.specs.Kinds.{Kinds}
use Rattle.clap.specs.Walk.{Text}
use Rattle.clap.specs.Simple.{HasMatchesOf, is_simple, subcommand_of, subcommand_rows_of}
use Rattle.clap.specs.declared.parser.matches.ArgMatches.{ArgMatches}
use Rattle.command_words.specs.declared.given.Given.{Given}
use Rattle.command_words.specs.Usages.{Usage, commands_of, different, is_among, is_plain, is_sound, is_sound_table}
use Rattle.command_words.specs.Words.{AreRefusedFirst, Item, is_refused_first, is_use, names_in, value_named}
use Rattle.command_words.specs.Rows.{GivesUse, HoldsRows, rows_for, usage_named, values_in}
use Rattle.command_words.specs.Clap.{app_for}
use Rattle.command_words.specs.Taken.{AreTaken, HasItems, IsGiven, IsUse}
use Rattle.command_words.proofs.Args.{same_text}
use Rattle.command_words.proofs.Rows.{empty}
use Rattle.command_words.proofs.Passing.{AreWords}
use Rattle.command_words.proofs.Items.{is_used, is_words, items_of}
use Rattle.command_words.proofs.Texts.{are_words}
use Rattle.command_words.proofs.Said.{passes_first, plain_passes, said, says}
use Rattle.command_words.proofs.Top.{law, name_is, values_law}
use Rattle.command_words.proofs.Free.{is_free}
use Rattle.command_words.proofs.Values.{options_read, pairs_differ, words_read}
use Rattle.command_words.proofs.Bools.{and_both, not_true}

-- ---- the rows of a table

abbrev pub NamesDiffer : List Usage → Type 0
NamesDiffer table = different (commands_of table) ≡ true

pub sound_rows : (table : List Usage) → is_sound_table table ≡ true → list_all is_sound table ≡ true
sound_rows table e =
    (and_both (nat_lt 0 (length table)) _ (and_both (nat_lt 0 (length table) && list_all is_sound table) _ e).0).1

pub sound_names : (table : List Usage) → is_sound_table table ≡ true
    → (list_all is_plain (commands_of table) ≡ true) × NamesDiffer table
sound_names table e =
    and_both (list_all is_plain (commands_of table)) _
    (and_both (nat_lt 0 (length table) && list_all is_sound table) _ e).1

pub row_there : (table : List Usage) (word : Text) (u : Usage) → usage_named table word ≡ Some u → Contains table u
row_there [] word u e = cc
row_there (v ∷ table) word u e = step (bytes_eq v.name word) e (row_there table word u)
  where
    step : (b : Bool) → cond b (Some v) (usage_named table word) ≡ Some u
        → (usage_named table word ≡ Some u → Contains table u) → Contains (v ∷ table) u
    step true e rest = (0, omega arith, same_Some v u e)
    step false e rest = let (k, lt, is) = rest e in (suc k, omega arith, is)

name_among : (table : List Usage) (u : Usage) → Contains table u → is_among u.name (commands_of table) ≡ true
name_among [] u (k, lt, is) = absurd (omega arith)
name_among (v ∷ table) u (zero, lt, is) =
    subst (λ (x : Usage). is_among x.name (commands_of (v ∷ table)) ≡ true) is (rw (same_text v.name) refl)
name_among (v ∷ table) u (suc k, lt, is) = rw (name_among table u (k, omega arith, is)) (ends (bytes_eq v.name u.name))
  where
    ends : (b : Bool) → (b || true) ≡ true
    ends true = refl
    ends false = refl

-- a row is found by its name
pub row_named : (table : List Usage) (u : Usage) → NamesDiffer table → Contains table u
    → usage_named table u.name ≡ Some u
row_named [] u diff (k, lt, is) = absurd (omega arith)
row_named (v ∷ table) u diff (zero, lt, is) =
    subst (λ (x : Usage). usage_named (v ∷ table) x.name ≡ Some x) is (rw (same_text v.name) refl)
row_named (v ∷ table) u diff (suc k, lt, is) =
    let (head, tail) = and_both (not (is_among v.name (commands_of table))) _ diff in
    let there : Contains table u = (k, omega arith, is) in
    step (bytes_eq v.name u.name) refl (not_true _ head) (name_among table u there) (row_named table u tail there)
  where
    step : (b : Bool) → bytes_eq v.name u.name ≡ b → is_among v.name (commands_of table) ≡ false
        → is_among u.name (commands_of table) ≡ true → usage_named table u.name ≡ Some u
        → cond b (Some v) (usage_named table u.name) ≡ Some u
    step true here none some rest =
        let same : v.name ≡ u.name = (bytes_eq-Decides v.name u.name).0 here in
        absurd (false≢true (sym none ∙ ap (λ n. is_among n (commands_of table)) same ∙ some))
    step false here none some rest = rest

pub row_sound : (table : List Usage) (u : Usage) → list_all is_sound table ≡ true → Contains table u → is_sound u ≡ true
row_sound [] u sound (k, lt, is) = absurd (omega arith)
row_sound (v ∷ table) u sound (zero, lt, is) =
    subst (λ (x : Usage). is_sound x ≡ true) is (and_both (is_sound v) _ sound).0
row_sound (v ∷ table) u sound (suc k, lt, is) = row_sound table u (and_both (is_sound v) _ sound).1 (k, omega arith, is)

name_plain : (table : List Usage) (u : Usage) → list_all is_plain (commands_of table) ≡ true → Contains table u
    → is_plain u.name ≡ true
name_plain [] u plains (k, lt, is) = absurd (omega arith)
name_plain (v ∷ table) u plains (zero, lt, is) =
    subst (λ (x : Usage). is_plain x.name ≡ true) is (and_both (is_plain v.name) _ plains).0
name_plain (v ∷ table) u plains (suc k, lt, is) =
    name_plain table u (and_both (is_plain v.name) _ plains).1 (k, omega arith, is)

-- ---- uses and the test of words

abbrev pub ArePassed : List Text → Type 0
ArePassed words = list_any is_refused_first (drop 1 words) ≡ false

-- words that the table allows are a use
find_use : (table : List Usage) (words : List Text) → ArePassed words → is_words table words ≡ true
    → AreTaken table words
find_use table [] passes e = absurd (false≢true e)
find_use table (first ∷ []) passes e = absurd (false≢true e)
find_use table (first ∷ word ∷ ws) passes e = by_row (usage_named table word) refl e
  where
    tail_passes : (b : Bool) → (b || list_any is_refused_first ws) ≡ false → list_any is_refused_first ws ≡ false
    tail_passes true h = absurd (false≢true (sym h))
    tail_passes false h = h

    by_items : (u : Usage) (items : Option (List Item)) → usage_named table word ≡ Some u → items_of ws ≡ items
        → option_map_or (is_use u) items false ≡ true → AreTaken table (first ∷ word ∷ ws)
    by_items u None row is e = absurd (false≢true e)
    by_items u (Some items) row is e = (
      u,
      items,
      record {
        first = first;
        rest = ws;
        split = ap (λ w. first ∷ w ∷ ws) (sym (name_is table word u row));
        row = row_there table word u row;
        says = says ws items (tail_passes (is_refused_first word) passes) is;
        allowed = e;
      },
    )

    by_row : (o : Option Usage) → usage_named table word ≡ o → option_map_or (is_used ws) o false ≡ true
        → AreTaken table (first ∷ word ∷ ws)
    by_row None row e = absurd (false≢true e)
    by_row (Some u) row e = by_items u (items_of ws) row refl e

-- and a use is of the table
use_found : (table : List Usage) (words : List Text) → NamesDiffer table → AreTaken table words
    → is_words table words ≡ true
use_found table words differ (u, items, h) =
    let whole : is_words table (h.first ∷ u.name ∷ h.rest) ≡ true =
    rw (row_named table u differ h.row, said h.rest items h.says, h.allowed) refl in
    ap (is_words table) h.split ∙ whole

-- words that are accepted pass the first look
pub taken_passes : (table : List Usage) (words : List Text) → is_sound_table table ≡ true → AreTaken table words
    → ArePassed words
taken_passes table words sound (u, items, h) =
    let named : is_refused_first u.name ≡ false =
    plain_passes u.name (name_plain table u (sound_names table sound).0 h.row) in
    let whole : list_any is_refused_first (u.name ∷ h.rest) ≡ false = rw named (passes_first h.rest items h.says) in
    ap (λ ws. list_any is_refused_first (drop 1 ws)) h.split ∙ whole

-- what clap finds in a use
use_rows : (program : Text) (table : List Usage) (words : List Text) (u : Usage) (items : List Item)
    → is_sound_table table ≡ true → AreWords (drop 1 words) → IsUse table words u items
    → subcommand_of (app_for program table) words ≡ Some (u.name, rows_for (values_in u.plains items))
use_rows program table words u items sound are h =
    let those : AreWords (u.name ∷ h.rest) = subst (λ ws. AreWords (drop 1 ws)) h.split are in
    let row = row_named table u (sound_names table sound).1 h.row in
    ap (subcommand_of (app_for program table)) h.split
    ∙ values_law program table u h.first u.name h.rest items (sound_rows table sound) those.1 row
    (said h.rest items h.says) h.allowed

-- ---- the words as they are given

any_seen : (words : List (String Global))
    → list_any is_refused_first (map string_bytes words) ≡ list_any (λ w. is_refused_first (string_bytes w)) words
any_seen [] = refl
any_seen (w ∷ ws) = ap (λ b. is_refused_first (string_bytes w) || b) (any_seen ws)

abbrev pub is_refused_word : List (String Global) → Bool
is_refused_word words = list_any (λ w. is_refused_first (string_bytes w)) (drop 1 words)

passed : (words : List (String Global))
    → list_any is_refused_first (drop 1 (map string_bytes words)) ≡ is_refused_word words
passed [] = refl
passed (w ∷ ws) = any_seen ws

text_words : (words : List (String Global)) → is_refused_word words ≡ false → AreWords (drop 1 (map string_bytes words))
text_words [] passes = tt
text_words (w ∷ ws) passes = are_words ws passes

simple : (program : Text) (table : List Usage) → is_simple (app_for program table) ≡ true
simple program table = (and_both (is_simple (app_for program table)) _ (is_free program table)).0

-- ---- the answers

pub are_refused : (words : List (String Global)) → is_refused_word words ≡ true
    → AreRefusedFirst (map string_bytes words)
are_refused words e = passed words ∙ e

pub not_refused : (words : List (String Global)) → is_refused_word words ≡ false
    → ¬ AreRefusedFirst (map string_bytes words)
not_refused words e refused = false≢true (sym (passed words ∙ e) ∙ refused)

-- the use that clap's matches are of
pub found_use : (program : Text) (table : List Usage) (words : List (String Global)) (m : ArgMatches)
    → is_sound_table table ≡ true → is_refused_word words ≡ false
    → fault_of (app_for program table) (map string_bytes words) ≡ []
    → HasMatchesOf (app_for program table) (map string_bytes words) m
    → (u : Usage) × (items : List Item) × IsUse table (map string_bytes words) u items × (subcommand_rows_of m ≡ Some (u.name, rows_for (values_in u.plains items)))
found_use program table words m sound passes none found =
    let are = text_words words passes in
    let taken =
    find_use table (map string_bytes words) (passed words ∙ passes)
    (sym (law program table (map string_bytes words) (sound_rows table sound) are) ∙ ap empty none) in
    (taken.0, taken.1, taken.2, (found (simple program table)).1 ∙ use_rows program table (map string_bytes words) taken.0 taken.1 sound are taken.2)

-- what the matches of a use give is what its items give
holds : (g : Given) (u : Usage) (items : List Item) → is_sound u ≡ true → is_use u items ≡ true
    → HoldsRows g u (rows_for (values_in u.plains items)) → HasItems g u items
holds g u items sound used h = record {
  command = h.command;
  plains = h.plains ∙ words_read u items sound used;
  options = λ name. ap (value_named name) h.options ∙ options_read u items name sound used;
  once = ap (λ given. different (names_in given)) h.options
      ∙ pairs_differ u (rows_for (values_in u.plains items)) sound;
}

pub given_use : (program : Text) (table : List Usage) (words : List (String Global)) (m : ArgMatches) (g : Option Given)
    → is_sound_table table ≡ true → is_refused_word words ≡ false
    → fault_of (app_for program table) (map string_bytes words) ≡ []
    → HasMatchesOf (app_for program table) (map string_bytes words) m → GivesUse table m g
    → (given : Given) × (g ≡ Some given) × IsGiven table (map string_bytes words) given
given_use program table words m g sound passes none found gives =
    let (u, items, h, rows) = found_use program table words m sound passes none found in
    let (given, is, has) =
    gives u (rows_for (values_in u.plains items)) (row_named table u (sound_names table sound).1 h.row) rows in
    (given, is, (u, items, h, holds given u items (row_sound table u (sound_rows table sound) h.row) h.allowed has))

some_fault : (k : Kinds) → k ≢ [] → empty k ≡ false
some_fault [] e = absurd (e refl)
some_fault (k ∷ ks) e = refl

pub not_taken : (program : Text) (table : List Usage) (words : List (String Global)) → is_sound_table table ≡ true
    → is_refused_word words ≡ false → fault_of (app_for program table) (map string_bytes words) ≢ []
    → ¬ AreTaken table (map string_bytes words)
not_taken program table words sound passes some taken =
    false≢true
    (sym (some_fault _ some) ∙ law program table (map string_bytes words) (sound_rows table sound) (text_words words passes) ∙ use_found table (map string_bytes words) (sound_names table sound).1 taken)

pub given_ok : (program : Text) (table : List Usage) (words : List (String Global)) (m : ArgMatches) (g : Option Given) (given : Given)
    → is_sound_table table ≡ true → is_refused_word words ≡ false
    → fault_of (app_for program table) (map string_bytes words) ≡ []
    → HasMatchesOf (app_for program table) (map string_bytes words) m → GivesUse table m g → g ≡ Some given
    → IsGiven table (map string_bytes words) given
given_ok program table words m g given sound passes none found gives some =
    let (other, is, has) = given_use program table words m g sound passes none found gives in
    subst (IsGiven table (map string_bytes words)) (same_Some other given (sym is ∙ some)) has

pub given_none : (program : Text) (table : List Usage) (words : List (String Global)) (m : ArgMatches) (g : Option Given)
    → is_sound_table table ≡ true → is_refused_word words ≡ false
    → fault_of (app_for program table) (map string_bytes words) ≡ []
    → HasMatchesOf (app_for program table) (map string_bytes words) m → GivesUse table m g → g ≢ None
given_none program table words m g sound passes none found gives absent =
    let (given, is, has) = given_use program table words m g sound passes none found gives in
    let wrong : None ≡ Some given = sym absent ∙ is in
    cc
