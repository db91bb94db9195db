-- The plain words (positional arguments) and the options of a use, read back from the rows of its values.
use Rattle.std.proofs.Common.{◌≡◌, ◌≤◌, ℕ, zero, suc, ◌+◌, List, [], ◌∷◌, ◌++◌, drop, Option, Some, None, Bool, true, false, ◌&&◌, ◌||◌, refl, sym, ap, subst, ◌∙◌, arith, cond}
use Rattle.std.specs.Prelude.{option_map, slice_get, find, length, nat_le, not}
use Rattle.std.specs.Option.{option_map_or}
use Rattle.std.specs.List.{list_all}
use Rattle.std.specs.Str.{bytes_eq}
use Rattle.std.proofs.lemmas.Bool.{false≢true}
use Rattle.std.proofs.lemmas.List.{append_assoc, drop_all, length-append, map-append}
use Rattle.std.proofs.lemmas.List.Folds.{list_any-append}
use Rattle.std.proofs.lemmas.Slice.Eq.{bytes_eq-Decides}
use Rattle.clap.specs.Walk.{Row, Text, first_of}
use Rattle.command_words.specs.Usages.{Slot, Usage, different, fits, is_among, is_sound, names_of}
use Rattle.command_words.specs.Words.{Item, plain, option, is_use, names_in, option_fits, options_in, plains_fit, plains_in, slot_named, value_named}
use Rattle.command_words.specs.Rows.{pair_then, pairs_of, rows_for, texts_of, texts_then, values_in}
use Rattle.command_words.proofs.Args.{flipped, same_text}
use Rattle.command_words.proofs.Lookups.{apart, slot_found}
use Rattle.command_words.proofs.Bools.{or_true, or_false, and_both, not_true}

pub first_value_in : (name : Text) (values : List (Text × Text))
    → first_of name (rows_for values) ≡ value_named name values
first_value_in name [] = refl
first_value_in name (g ∷ values) = step (bytes_eq g.0 name) refl (first_value_in name values)
  where
    step : (b : Bool) → bytes_eq g.0 name ≡ b → first_of name (rows_for values) ≡ value_named name values
        → first_of name (rows_for (g ∷ values)) ≡ value_named name (g ∷ values)
    step true e rest = rw e refl
    step false e rest = rw e rest

-- ---- the values, from the words and the options

-- an option's value is that among the options
pub option_value : (slots : List Slot) (items : List Item) (name : Text) → is_among name (names_of slots) ≡ false
    → value_named name (values_in slots items) ≡ value_named name (options_in items)
option_value slots [] name other = refl
option_value [] (plain w ∷ items) name other = option_value [] items name other
option_value (s ∷ slots) (plain w ∷ items) name other =
    let (here, rest) = or_false (bytes_eq s.name name) _ other in
    rw here (option_value slots items name rest)
option_value [] (option n v ∷ items) name other = by_name (bytes_eq n name) (option_value [] items name other)
  where
    by_name : (b : Bool) → value_named name (values_in [] items) ≡ value_named name (options_in items)
        → option_map (λ (g : Text × Text). g.1) (cond b (Some (n, v)) (find (λ g. bytes_eq g.0 name) (values_in [] items))) ≡ option_map (λ g. g.1) (cond b (Some (n, v)) (find (λ g. bytes_eq g.0 name) (options_in items)))
    by_name true e = refl
    by_name false e = e
option_value (s ∷ slots) (option n v ∷ items) name other =
    by_name (bytes_eq n name) (option_value (s ∷ slots) items name other)
  where
    by_name : (b : Bool) → value_named name (values_in (s ∷ slots) items) ≡ value_named name (options_in items)
        → option_map (λ (g : Text × Text). g.1) (cond b (Some (n, v)) (find (λ g. bytes_eq g.0 name) (values_in (s ∷ slots) items))) ≡ option_map (λ g. g.1) (cond b (Some (n, v)) (find (λ g. bytes_eq g.0 name) (options_in items)))
    by_name true e = refl
    by_name false e = e

-- no option of the items has the name
abbrev NoOption : Text → List Item → Type 0
NoOption name items = is_among name (names_in (options_in items)) ≡ false

-- the value at a position is the word there
pub plain_value : (before slots : List Slot) (s : Slot) (items : List Item)
    → different (names_of (before ++ s ∷ slots)) ≡ true → NoOption s.name items
    → value_named s.name (values_in (before ++ s ∷ slots) items) ≡ slice_get (plains_in items) (length before)
plain_value [] slots s [] diff none = refl
plain_value (b ∷ before) slots s [] diff none = refl
plain_value [] slots s (plain w ∷ items) diff none = rw (same_text s.name) refl
plain_value (b ∷ before) slots s (plain w ∷ items) diff none =
    let (head, tail) = and_both (not (is_among b.name (names_of (before ++ s ∷ slots)))) _ diff in
    let later : is_among b.name (names_of before ++ s.name ∷ names_of slots) ≡ false =
    sym (ap (is_among b.name) (map-append _ before (s ∷ slots))) ∙ not_true _ head in
    let there = (or_false _ _ (sym (list_any-append _ (names_of before) (s.name ∷ names_of slots)) ∙ later)).1 in
    let other : bytes_eq b.name s.name ≡ false =
    flipped b.name s.name ∙ (or_false (bytes_eq s.name b.name) _ there).0 in
    rw other (plain_value before slots s items tail none)
plain_value [] slots s (option n v ∷ items) diff none =
    let (here, rest) = or_false (bytes_eq n s.name) _ none in
    rw here (plain_value [] slots s items diff rest)
plain_value (b ∷ before) slots s (option n v ∷ items) diff none =
    let (here, rest) = or_false (bytes_eq n s.name) _ none in
    rw here (plain_value (b ∷ before) slots s items diff rest)

-- ---- of a use

-- if all texts of a list differ, so do those of a prefix
front : (xs ys : List Text) → different (xs ++ ys) ≡ true → different xs ≡ true
front [] ys d = refl
front (x ∷ xs) ys d =
    let (head, tail) = and_both (not (is_among x (xs ++ ys))) _ d in
    let alone : is_among x xs ≡ false =
    (or_false (is_among x xs) _ (sym (list_any-append _ xs ys) ∙ not_true _ head)).0 in
    rw alone (front xs ys tail)

option_known : (u : Usage) (items : List Item) (t : Text) → list_all (option_fits u.options) (options_in items) ≡ true
    → is_among t (names_in (options_in items)) ≡ true → is_among t (names_of u.options) ≡ true
option_known u [] t fit e = absurd (false≢true e)
option_known u (plain w ∷ items) t fit e = option_known u items t fit e
option_known u (option n v ∷ items) t fit e =
    let (here, rest) = and_both (option_fits u.options (n, v)) _ fit in
    by_slot (slot_named u.options n) refl (bytes_eq n t) refl here e (option_known u items t rest)
  where
    by_slot : (o : Option Slot) → slot_named u.options n ≡ o → (b : Bool) → bytes_eq n t ≡ b
        → option_map_or (λ s. fits s.limit v) o false ≡ true → (b || is_among t (names_in (options_in items))) ≡ true
        → (is_among t (names_in (options_in items)) ≡ true → is_among t (names_of u.options) ≡ true)
        → is_among t (names_of u.options) ≡ true
    by_slot None is b same h e rest = absurd (false≢true h)
    by_slot (Some s) is false same h e rest = rest e
    by_slot (Some s) is true same h e rest =
        subst (λ x. is_among x (names_of u.options) ≡ true) ((bytes_eq-Decides n t).0 same)
        (slot_found u.options n s is).1

not_option : (u : Usage) (items : List Item) (t : Text) → list_all (option_fits u.options) (options_in items) ≡ true
    → is_among t (names_of u.options) ≡ false → NoOption t items
not_option u items t fit e = by_test (is_among t (names_in (options_in items))) refl
  where
    by_test : (b : Bool) → is_among t (names_in (options_in items)) ≡ b → b ≡ false
    by_test true h = absurd (false≢true (sym e ∙ option_known u items t fit h))
    by_test false h = refl

used_options : (u : Usage) (items : List Item) → is_use u items ≡ true
    → list_all (option_fits u.options) (options_in items) ≡ true
used_options u items used =
    (and_both (list_all (option_fits u.options) (options_in items)) _ (and_both (nat_le u.least (length (plains_in items)) && plains_fit u.plains (plains_in items)) _ used).1).0

-- the value of the slot at a position is the word at that position
pub place_value : (u : Usage) (items : List Item) (before slots : List Slot) (s : Slot) → is_sound u ≡ true
    → is_use u items ≡ true → u.plains ≡ before ++ s ∷ slots
    → value_named s.name (values_in u.plains items) ≡ slice_get (plains_in items) (length before)
place_value u items before slots s sound used split =
    let diff = (and_both (different (names_of u.plains ++ names_of u.options)) _ sound).0 in
    let mine : is_among s.name (names_of u.plains) ≡ true =
    ap (λ ps. is_among s.name (names_of ps)) split ∙ ap (is_among s.name)
    (map-append _ before (s ∷ slots)) ∙ list_any-append _ (names_of before) (s.name ∷ names_of slots) ∙ rw
    (same_text s.name) (or_true (is_among s.name (names_of before))) in
    let other = apart (names_of u.plains) (names_of u.options) s.name diff mine in
    ap (λ ps. value_named s.name (values_in ps items)) split
    ∙ plain_value before slots s items
    (ap (λ ps. different (names_of ps)) (sym split) ∙ front (names_of u.plains) (names_of u.options) diff)
    (not_option u items s.name (used_options u items used) other)

-- the value of an option is that among the options
pub name_value : (u : Usage) (items : List Item) (t : Text) → is_among t (names_of u.plains) ≡ false
    → value_named t (values_in u.plains items) ≡ value_named t (options_in items)
name_value u items t other = option_value u.plains items t other

-- ---- the plain words, read back by the names of their slots

drop_none : (k : ℕ) → drop {A = Text} k [] ≡ []
drop_none zero = refl
drop_none (suc k) = refl

next_text : (ps : List Text) (k : ℕ) → texts_then (slice_get ps k) (drop (suc k) ps) ≡ drop k ps
next_text [] k = sym (drop_none k)
next_text (p ∷ ps) zero = refl
next_text (p ∷ ps) (suc k) = next_text ps k

fit_few : (slots : List Slot) (ws : List Text) → plains_fit slots ws ≡ true → length ws ≤ length slots
fit_few slots [] e = omega arith
fit_few [] (w ∷ ws) e = absurd (false≢true e)
fit_few (s ∷ slots) (w ∷ ws) e = let rest = fit_few slots ws (and_both (fits s.limit w) _ e).1 in omega arith

places_read : (u : Usage) (items : List Item) → is_sound u ≡ true → is_use u items ≡ true
    → length (plains_in items) ≤ length u.plains → (before slots : List Slot) → u.plains ≡ before ++ slots
    → texts_of slots (rows_for (values_in u.plains items)) ≡ drop (length before) (plains_in items)
places_read u items sound used few before [] split =
    let all : length u.plains ≡ length before + 0 = ap length split ∙ length-append before [] in
    sym (drop_all (length before) (plains_in items) (omega arith))
places_read u items sound used few before (s ∷ slots) split =
    let rest =
    places_read u items sound used few (before ++ s ∷ []) slots (split ∙ sym (append_assoc before (s ∷ []) slots)) in
    let longer : length (before ++ s ∷ []) ≡ suc (length before) = length-append before (s ∷ []) ∙ omega arith in
    rw (rest, longer, first_value_in s.name (values_in u.plains items), place_value u items before slots s sound used split) (next_text (plains_in items) (length before))

-- the plain words of a use are the values of its slots
pub words_read : (u : Usage) (items : List Item) → is_sound u ≡ true → is_use u items ≡ true
    → texts_of u.plains (rows_for (values_in u.plains items)) ≡ plains_in items
words_read u items sound used =
    let fit =
    (and_both (nat_le u.least (length (plains_in items))) _ (and_both (nat_le u.least (length (plains_in items)) && plains_fit u.plains (plains_in items)) _ used).0).1 in
    places_read u items sound used (fit_few u.plains (plains_in items) fit) [] u.plains refl

-- ---- the options, read back by their names

abbrev pub only_if : Bool → Option Text → Option Text
only_if true o = o
only_if false o = None

-- the value of a slot's name is that among all values
pairs_value : (slots : List Slot) (values : List (Text × Text)) (name : Text) → different (names_of slots) ≡ true
    → value_named name (pairs_of slots (rows_for values))
    ≡ only_if (is_among name (names_of slots)) (value_named name values)
pairs_value [] values name diff = refl
pairs_value (s ∷ slots) values name diff =
    let (head, tail) = and_both (not (is_among s.name (names_of slots))) _ diff in
    rw (first_value_in s.name values)
    (step (bytes_eq s.name name) refl (value_named s.name values) refl (not_true _ head) (pairs_value slots values name tail))
  where
    step : (b : Bool) → bytes_eq s.name name ≡ b → (o : Option Text) → value_named s.name values ≡ o
        → is_among s.name (names_of slots) ≡ false
        → value_named name (pairs_of slots (rows_for values))
        ≡ only_if (is_among name (names_of slots)) (value_named name values)
        → value_named name (pair_then s.name o (pairs_of slots (rows_for values)))
        ≡ only_if (b || is_among name (names_of slots)) (value_named name values)
    step true here (Some t) is other rest =
        let same : s.name ≡ name = (bytes_eq-Decides s.name name).0 here in
        rw here (sym is ∙ ap (λ n. value_named n values) same)
    step true here None is other rest =
        let same : s.name ≡ name = (bytes_eq-Decides s.name name).0 here in
        let none : is_among name (names_of slots) ≡ false =
        subst (λ n. is_among n (names_of slots) ≡ false) same other in
        rest ∙ ap (λ b. only_if b (value_named name values)) none ∙ sym is ∙ ap (λ n. value_named n values) same
    step false here (Some t) is other rest = rw here rest
    step false here None is other rest = rest

unnamed : (name : Text) (values : List (Text × Text)) → is_among name (names_in values) ≡ false
    → value_named name values ≡ None
unnamed name [] none = refl
unnamed name (g ∷ values) none =
    let (here, more) = or_false (bytes_eq g.0 name) _ none in
    rw here (unnamed name values more)

back : (xs ys : List Text) → different (xs ++ ys) ≡ true → different ys ≡ true
back [] ys d = d
back (x ∷ xs) ys d = back xs ys (and_both (not (is_among x (xs ++ ys))) _ d).1

-- the options of a use have the values that its items give them
pub options_read : (u : Usage) (items : List Item) (name : Text) → is_sound u ≡ true → is_use u items ≡ true
    → value_named name (pairs_of u.options (rows_for (values_in u.plains items))) ≡ value_named name (options_in items)
options_read u items name sound used =
    let diff = (and_both (different (names_of u.plains ++ names_of u.options)) _ sound).0 in
    pairs_value u.options (values_in u.plains items) name (back (names_of u.plains) (names_of u.options) diff)
    ∙ step (is_among name (names_of u.options)) refl (is_among name (names_of u.plains)) refl diff
  where
    step : (b : Bool) → is_among name (names_of u.options) ≡ b → (c : Bool) → is_among name (names_of u.plains) ≡ c
        → different (names_of u.plains ++ names_of u.options) ≡ true
        → only_if b (value_named name (values_in u.plains items)) ≡ value_named name (options_in items)
    step true is true there diff =
        absurd (false≢true (sym (apart (names_of u.plains) (names_of u.options) name diff there) ∙ is))
    step true is false there diff = name_value u items name there
    step false is c there diff =
        sym (unnamed name (options_in items) (not_option u items name (used_options u items used) is))

pairs_among : (slots : List Slot) (rows : List Row) (name : Text) → is_among name (names_of slots) ≡ false
    → is_among name (names_in (pairs_of slots rows)) ≡ false
pairs_among [] rows name none = refl
pairs_among (s ∷ slots) rows name none =
    let (here, more) = or_false (bytes_eq s.name name) _ none in
    step (first_of s.name rows) here (pairs_among slots rows name more)
  where
    step : (o : Option Text) → bytes_eq s.name name ≡ false → is_among name (names_in (pairs_of slots rows)) ≡ false
        → is_among name (names_in (pair_then s.name o (pairs_of slots rows))) ≡ false
    step None here rest = rest
    step (Some t) here rest = rw here rest

pairs_once : (slots : List Slot) (rows : List Row) → different (names_of slots) ≡ true
    → different (names_in (pairs_of slots rows)) ≡ true
pairs_once [] rows diff = refl
pairs_once (s ∷ slots) rows diff =
    let (head, tail) = and_both (not (is_among s.name (names_of slots))) _ diff in
    step (first_of s.name rows) (pairs_among slots rows s.name (not_true _ head)) (pairs_once slots rows tail)
  where
    step : (o : Option Text) → is_among s.name (names_in (pairs_of slots rows)) ≡ false
        → different (names_in (pairs_of slots rows)) ≡ true
        → different (names_in (pair_then s.name o (pairs_of slots rows))) ≡ true
    step None none rest = rest
    step (Some t) none rest = rw none rest

-- no option is read back twice
pub pairs_differ : (u : Usage) (rows : List Row) → is_sound u ≡ true
    → different (names_in (pairs_of u.options rows)) ≡ true
pairs_differ u rows sound =
    let diff = (and_both (different (names_of u.plains ++ names_of u.options)) _ sound).0 in
    pairs_once u.options rows (back (names_of u.plains) (names_of u.options) diff)
