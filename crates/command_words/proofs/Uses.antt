-- The items that pass one by one are those of a use, and what they give are the values of the use. Both follow by induction
-- on the items, with the slots before the next plain word and the options that were read so far.
use Rattle.std.proofs.Common.{◌≡◌, ℕ, ◌+◌, ◌≤◌, List, [], ◌∷◌, ◌++◌, map, length, Option, Some, None, option_map, Bool, true, false, not, ◌&&◌, ◌||◌, refl, ap, ap₂, sym, subst, ◌∙◌, arith}
use Rattle.std.proofs.lemmas.Bool.{false≢true, leb-true}
use Rattle.std.proofs.lemmas.List.{append-nil, append_assoc, length-append, map-append}
use Rattle.std.proofs.lemmas.List.Folds.{list_any-append}
use Rattle.std.proofs.lemmas.Slice.Eq.{bytes_eq-Decides}
use Rattle.std.specs.Prelude.{nat_le}
use Rattle.std.specs.List.{list_all}
use Rattle.std.specs.Option.{option_map_or}
use Rattle.std.specs.Str.{bytes_eq}
use Rattle.clap.specs.Walk.{Text}
use Rattle.command_words.specs.Usages.{Slot, Usage, different, fits, is_among, is_sound, names_of}
use Rattle.command_words.specs.Words.{Item, plain, option, is_use, names_in, option_fits, options_in, plains_fit, plains_in, slot_named}
use Rattle.command_words.specs.Rows.{has_name, values_in}
use Rattle.command_words.proofs.Args.{are_different, ids_of, args_for, option_arg, flipped, place_after, plain_args, same_text}
use Rattle.command_words.proofs.Rows.{Given}
use Rattle.command_words.proofs.Passing.{by_place, given_after, lacks, put, take_items, then_use}
use Rattle.command_words.proofs.Bools.{and_false, or_true, or_end, or_false, or_assoc, and_both, not_true, plain_step, plain_none}
use Rattle.command_words.proofs.Lookups.{apart, next_place, first_arg, place_found, long_found, slot_found, AreNew, first_among, lacks_after}

-- ---- one item after the other

option_step : (h f a l d : Bool) → (d ≡ true → h ≡ false) → ((not h && f) && (a && (l && d))) ≡ (a && ((f && l) && d))
option_step true f a l true e = absurd (false≢true (sym (e refl)))
option_step true f true true false e = absurd_free f
  where
    absurd_free : (f : Bool) → false ≡ ((f && true) && false)
    absurd_free true = refl
    absurd_free false = refl
option_step true f true false false e = all_false f
  where
    all_false : (f : Bool) → false ≡ ((f && false) && false)
    all_false true = refl
    all_false false = refl
option_step true f false l false e = refl
option_step false true a l d e = refl
option_step false false true l d e = refl
option_step false false false l d e = refl

option_none : (a l d : Bool) → false ≡ (a && ((false && l) && d))
option_none true l d = refl
option_none false l d = refl

option_test : (h f a l d t : Bool) → (h ≡ false → t ≡ (a && (l && d))) → (d ≡ true → h ≡ false)
    → ((not h && f) && t) ≡ (a && ((f && l) && d))
option_test true f a l true t e g = absurd (false≢true (sym (g refl)))
option_test true f a l false t e g = rw (and_false (f && l)) (sym (and_false a))
option_test false f a l d t e g = rw (e refl) (option_step false f a l d (λ h. refl))

or_swap : (x y z : Bool) → ((x || y) || z) ≡ ((x || z) || y)
or_swap true y z = refl
or_swap false true true = refl
or_swap false true false = refl
or_swap false false true = refl
or_swap false false false = refl

among_last : (t s : Text) (ts : List Text) → is_among t (ts ++ s ∷ []) ≡ (is_among t ts || bytes_eq s t)
among_last t s [] = or_end (bytes_eq s t)
among_last t s (x ∷ ts) = rw (among_last t s ts) (sym (or_assoc (bytes_eq x t) (is_among t ts) (bytes_eq s t)))

has_last : (t n x : Text) (given : Given) → has_name t (given ++ (n, x) ∷ []) ≡ (has_name t given || bytes_eq n t)
has_last t n x given = ap (is_among t) (map-append _ given ((n, x) ∷ [])) ∙ among_last t n (names_in given)

slot_last : (t : Text) (s : Slot) (slots : List Slot)
    → is_among t (names_of (slots ++ s ∷ [])) ≡ (is_among t (names_of slots) || bytes_eq s.name t)
slot_last t s slots = ap (is_among t) (map-append _ slots (s ∷ [])) ∙ among_last t s.name (names_of slots)

different_last : (ts : List Text) (t : Text) → different ts ≡ true → is_among t ts ≡ false
    → different (ts ++ t ∷ []) ≡ true
different_last [] t d e = refl
different_last (x ∷ ts) t d e =
    let (head, tail) = and_both (not (is_among x ts)) _ d in
    let (other, rest) = or_false (bytes_eq x t) (is_among t ts) e in
    rw (among_last x t ts, not_true _ head, flipped t x, other) (different_last ts t tail rest)

-- a name that stands among them twice is not new
not_before : (ts us : List Text) (t : Text) → different (ts ++ t ∷ us) ≡ true → is_among t ts ≡ false
not_before ts us t d = step (is_among t ts) refl
  where
    step : (b : Bool) → is_among t ts ≡ b → b ≡ false
    step false e = refl
    step true e = absurd (false≢true (sym (or_false (bytes_eq t t) _ (apart ts (t ∷ us) t d e)).0 ∙ same_text t))

module _ (u : Usage) (diff : different (names_of u.plains ++ names_of u.options) ≡ true) (enough : u.least ≤ length u.plains) (few : length u.plains ≤ 1000) where
  -- the state after some items: the slots before those left, and the options that were read
  record State (before slots : List Slot) (read given : Given) (i : ℕ) : Type 0 where
    split : u.plains ≡ before ++ slots
    place : i ≡ 1 + length before
    has : (t : Text) → has_name t given ≡ (is_among t (names_of before) || has_name t read)
    known : (t : Text) → has_name t read ≡ true → is_among t (names_of u.options) ≡ true
    once : different (names_in read) ≡ true

  abbrev use_of : List Slot → List Slot → Given → List Item → Bool
  use_of before slots read items =
      (nat_le u.least (length before + length (plains_in items)) && plains_fit slots (plains_in items))
      &&
      (list_all (option_fits u.options) (options_in items) && different (names_in read ++ names_in (options_in items)))

  in_all : (before slots : List Slot) (read given : Given) (i : ℕ) → State before slots read given i
      → length u.plains ≡ length before + length slots
  in_all before slots read given i s = ap length s.split ∙ length-append before slots

  state_small : (before slots : List Slot) (read given : Given) (i : ℕ) → State before slots read given i → i ≤ 1001
  state_small before slots read given i s =
      let all = in_all before slots read given i s in
      let at = s.place in
      omega arith

  split_names : (before slots : List Slot) → u.plains ≡ before ++ slots
      → names_of u.plains ++ names_of u.options ≡ names_of before ++ (names_of slots ++ names_of u.options)
  split_names before slots e =
      ap (λ ps. names_of ps ++ names_of u.options) e ∙ ap (λ ns. ns ++ names_of u.options) (map-append _ before slots)
      ∙ append_assoc (names_of before) (names_of slots) (names_of u.options)

  slots_new : (before slots : List Slot) (read given : Given) (i : ℕ) → State before slots read given i
      → AreNew slots given
  slots_new before slots read given i s t e =
      s.has t ∙ ap₂ (λ b c. b || c) (none_before (is_among t (names_of before)) refl) (none_read (has_name t read) refl)
    where
      parts : different (names_of before ++ (names_of slots ++ names_of u.options)) ≡ true
      parts = sym (ap different (split_names before slots s.split)) ∙ diff

      none_before : (b : Bool) → is_among t (names_of before) ≡ b → b ≡ false
      none_before false h = refl
      none_before true h =
          let none = apart (names_of before) (names_of slots ++ names_of u.options) t parts h in
          absurd
          (false≢true (sym (or_false _ _ (sym (list_any-append _ (names_of slots) (names_of u.options)) ∙ none)).0 ∙ e))

      in_plains : is_among t (names_of u.plains) ≡ true
      in_plains =
          ap (λ ps. is_among t (names_of ps)) s.split ∙ ap (is_among t) (map-append _ before slots)
          ∙ list_any-append _ (names_of before) (names_of slots) ∙ rw e (or_true (is_among t (names_of before)))

      none_read : (b : Bool) → has_name t read ≡ b → b ≡ false
      none_read false h = refl
      none_read true h =
          absurd (false≢true (sym (apart (names_of u.plains) (names_of u.options) t diff in_plains) ∙ s.known t h))

  -- the name of an option is not the name of a plain word
  option_only : (before slots : List Slot) (read given : Given) (i : ℕ) (t : Text) → State before slots read given i
      → is_among t (names_of u.options) ≡ true → has_name t given ≡ has_name t read
  option_only before slots read given i t s e =
      s.has t ∙ ap (λ b. b || has_name t read) (none_before (is_among t (names_of before)) refl)
    where
      in_plains : is_among t (names_of before) ≡ true → is_among t (names_of u.plains) ≡ true
      in_plains h =
          ap (λ ps. is_among t (names_of ps)) s.split ∙ ap (is_among t) (map-append _ before slots)
          ∙ list_any-append _ (names_of before) (names_of slots) ∙ rw h refl

      none_before : (b : Bool) → is_among t (names_of before) ≡ b → b ≡ false
      none_before false h = refl
      none_before true h =
          absurd (false≢true (sym (apart (names_of u.plains) (names_of u.options) t diff (in_plains h)) ∙ e))

  after_plain : (s : Slot) (before slots : List Slot) (read given : Given) (i : ℕ) (w : Text)
      → State before (s ∷ slots) read given i
      → State (before ++ s ∷ []) slots read (given ++ (s.name, w) ∷ []) (place_after i)
  after_plain s before slots read given i w st = record {
    split = st.split ∙ sym (append_assoc before (s ∷ []) slots);
    place =
        let small = state_small before (s ∷ slots) read given i st in
        let longer : length (before ++ s ∷ []) ≡ length before + 1 = length-append before (s ∷ []) in
        let at = st.place in
        next_place i (omega arith) ∙ omega arith;
    has = λ t. has_last t s.name w given ∙ ap (λ b. b || bytes_eq s.name t) (st.has t)
        ∙ or_swap (is_among t (names_of before)) (has_name t read) (bytes_eq s.name t) ∙ ap (λ b. b || has_name t read) (sym (slot_last t s before));
    known = st.known;
    once = st.once;
  }

  after_option : (name v : Text) (before slots : List Slot) (read given : Given) (i : ℕ)
      → State before slots read given i → is_among name (names_of u.options) ≡ true → has_name name read ≡ false
      → State before slots (read ++ (name, v) ∷ []) (given ++ (name, v) ∷ []) i
  after_option name v before slots read given i st e new = record {
    split = st.split;
    place = st.place;
    has = λ t. has_last t name v given ∙ ap (λ b. b || bytes_eq name t) (st.has t)
        ∙ or_assoc (is_among t (names_of before)) (has_name t read) (bytes_eq name t) ∙ ap (λ b. is_among t (names_of before) || b) (sym (has_last t name v read));
    known = λ t h. known_last t (has_name t read) (bytes_eq name t) refl refl (sym (has_last t name v read) ∙ h);
    once = ap different (map-append _ read ((name, v) ∷ [])) ∙ different_last (names_in read) name st.once new;
  }
    where
      known_last : (t : Text) (b c : Bool) → has_name t read ≡ b → bytes_eq name t ≡ c → (b || c) ≡ true
          → is_among t (names_of u.options) ≡ true
      known_last t true c f g h = st.known t f
      known_last t false true f g h =
          subst (λ x. is_among x (names_of u.options) ≡ true) ((bytes_eq-Decides name t).0 g) e
      known_last t false false f g h = absurd (false≢true h)

  place_here : (before slots : List Slot) (read given : Given) (i : ℕ) → State before slots read given i
      → by_place (args_for u) i ≡ first_arg u.least (length before) i slots
  place_here before slots read given i st =
      let small = state_small before slots read given i st in
      let at = st.place in
      subst
      (λ ps. by_place (plain_args u.least 0 1 ps ++ map option_arg u.options) i ≡ first_arg u.least (length before) i slots)
      (sym st.split)
      (place_found u.least 0 1 before slots u.options (length before) i (omega arith) at (omega arith))

  lacks_here : (before slots : List Slot) (read given : Given) (i : ℕ) → State before slots read given i
      → not (lacks (args_for u) given) ≡ nat_le u.least (length before)
  lacks_here before slots read given i st =
      let all = in_all before slots read given i st in
      subst
      (λ ps. not (lacks (plain_args u.least 0 1 ps ++ map option_arg u.options) given) ≡ nat_le u.least (length before))
      (sym st.split)
      (lacks_after u.least 0 1 before slots u.options given (length before) (omega arith) (λ t e. rw (st.has t, e) refl) (slots_new before slots read given i st) (omega arith))

  pushed_names : (name v : Text) (read : Given) (os : List Text)
      → different (names_in (read ++ (name, v) ∷ []) ++ os) ≡ different (names_in read ++ name ∷ os)
  pushed_names name v read os =
      ap different
      (ap (λ ns. ns ++ os) (map-append _ read ((name, v) ∷ [])) ∙ append_assoc (names_in read) (name ∷ []) os)

  option_used : (name v : Text) (items : List Item) (before slots : List Slot) (read given : Given) (i : ℕ)
      → State before slots read given i → (o : Option Slot) → slot_named u.options name ≡ o
      → (is_among name (names_of u.options) ≡ true → has_name name given ≡ false → has_name name read ≡ false
      → take_items (args_for u) items (given ++ (name, v) ∷ []) i ≡ use_of before slots (read ++ (name, v) ∷ []) items)
      → then_use (option_map option_arg o) v given (λ g. take_items (args_for u) items g i)
      ≡ use_of before slots read (option name v ∷ items)
  option_used name v items before slots read given i st None e rest =
      rw e (option_none _ (list_all (option_fits u.options) (options_in items)) (different (names_in read ++ name ∷ names_in (options_in items))))
  option_used name v items before slots read given i st (Some s) e rest =
      let (same, among) = slot_found u.options name s e in
      let is_read = option_only before slots read given i name st among in
      rw (e, same)
      (option_test (has_name name given) (fits s.limit v) _ _ _ _
      (λ new. rest among new (sym is_read ∙ new) ∙ rw (pushed_names name v read (names_in (options_in items))) refl)
      (λ d. is_read ∙ not_before (names_in read) (names_in (options_in items)) name d))

  are_used : (items : List Item) (before slots : List Slot) (read given : Given) (i : ℕ)
      → State before slots read given i → take_items (args_for u) items given i ≡ use_of before slots read items
  are_used [] before slots read given i st =
      let none : length before + 0 ≡ length before = omega arith in
      rw (none, append-nil, st.once) (lacks_here before slots read given i st ∙ sym (ends (nat_le u.least (length before))))
    where
      ends : (b : Bool) → ((b && true) && true) ≡ b
      ends true = refl
      ends false = refl
  are_used (plain w ∷ items) before [] read given i st = rw (place_here before [] read given i st) (plain_none _ _)
  are_used (plain w ∷ items) before (s ∷ slots) read given i st =
      let new : has_name s.name given ≡ false =
      slots_new before (s ∷ slots) read given i st s.name (first_among s slots) in
      let rest =
      are_used items (before ++ s ∷ []) slots read (given ++ (s.name, w) ∷ []) (place_after i)
      (after_plain s before slots read given i w st) in
      let longer : length (before ++ s ∷ []) ≡ length before + 1 = length-append before (s ∷ []) in
      let same : length (before ++ s ∷ []) + length (plains_in items) ≡ length before + length (w ∷ plains_in items) =
      omega arith in
      rw (place_here before (s ∷ slots) read given i st, new, rest, same) (plain_step (fits s.limit w) _ (plains_fit slots (plains_in items)) _)
  are_used (option name v ∷ items) before slots read given i st =
      rw (long_found u.least 0 1 u.plains u.options name)
      (option_used name v items before slots read given i st (slot_named u.options name) refl
      (λ among new fresh. are_used items before slots (read ++ (name, v) ∷ []) (given ++ (name, v) ∷ []) i (after_option name v before slots read given i st among fresh)))

  -- ---- the values

  values_plain : (slots : List Slot) (name v : Text) (items : List Item)
      → values_in slots (option name v ∷ items) ≡ (name, v) ∷ values_in slots items
  values_plain [] name v items = refl
  values_plain (s ∷ slots) name v items = refl

  place_at : (before slots : List Slot) (i : ℕ) → u.plains ≡ before ++ slots → i ≡ 1 + length before
      → by_place (args_for u) i ≡ first_arg u.least (length before) i slots
  place_at before slots i split at =
      let all : length u.plains ≡ length before + length slots = ap length split ∙ length-append before slots in
      subst
      (λ ps. by_place (plain_args u.least 0 1 ps ++ map option_arg u.options) i ≡ first_arg u.least (length before) i slots)
      (sym split)
      (place_found u.least 0 1 before slots u.options (length before) i (omega arith) at (omega arith))

  after_option_given : (name v : Text) (given : Given) (o : Option Slot) → slot_named u.options name ≡ o
      → option_map_or (λ s. fits s.limit v) o false ≡ true
      → put (option_map option_arg o) v given ≡ given ++ (name, v) ∷ []
  after_option_given name v given None e known = absurd (false≢true known)
  after_option_given name v given (Some s) e known = ap (λ n. given ++ (n, v) ∷ []) (slot_found u.options name s e).0

  values_are : (items : List Item) (before slots : List Slot) (given : Given) (i : ℕ) → u.plains ≡ before ++ slots
      → i ≡ 1 + length before
      → plains_fit slots (plains_in items) ≡ true → list_all (option_fits u.options) (options_in items) ≡ true
      → given_after (args_for u) items given i ≡ given ++ values_in slots items
  values_are [] before slots given i split at plains options = sym (append-nil given)
  values_are (plain w ∷ items) before [] given i split at plains options = absurd (false≢true plains)
  values_are (plain w ∷ items) before (s ∷ slots) given i split at plains options =
      let all : length u.plains ≡ length before + length (s ∷ slots) =
      ap length split ∙ length-append before (s ∷ slots) in
      let longer : length (before ++ s ∷ []) ≡ length before + 1 = length-append before (s ∷ []) in
      let (here, rest) = and_both (fits s.limit w) _ plains in
      let next : place_after i ≡ 1 + length (before ++ s ∷ []) = next_place i (omega arith) ∙ omega arith in
      rw (place_at before (s ∷ slots) i split at)
      (values_are items (before ++ s ∷ []) slots (given ++ (s.name, w) ∷ []) (place_after i) (split ∙ sym (append_assoc before (s ∷ []) slots)) next rest options ∙ append_assoc given ((s.name, w) ∷ []) (values_in slots items))
  values_are (option name v ∷ items) before slots given i split at plains options =
      let (here, rest) = and_both (option_fits u.options (name, v)) _ options in
      rw (long_found u.least 0 1 u.plains u.options name, after_option_given name v given (slot_named u.options name) refl here, values_plain slots name v items)
      (values_are items before slots (given ++ (name, v) ∷ []) i split at plains rest ∙ append_assoc given ((name, v) ∷ []) (values_in slots items))

  pub use_values : (items : List Item) → is_use u items ≡ true
      → given_after (args_for u) items [] 1 ≡ values_in u.plains items
  use_values items e =
      let (plains, options) =
      and_both (nat_le u.least (length (plains_in items)) && plains_fit u.plains (plains_in items)) _ e in
      values_are items [] u.plains [] 1 refl (omega arith)
      (and_both (nat_le u.least (length (plains_in items))) _ plains).1
      (and_both (list_all (option_fits u.options) (options_in items)) _ options).0

  pub take_is_use : (items : List Item) → take_items (args_for u) items [] 1 ≡ is_use u items
  take_is_use items =
      let zero_more : 0 + length (plains_in items) ≡ length (plains_in items) = omega arith in
      are_used items [] u.plains [] [] 1
      (record { split = refl; place = omega arith; has = λ t. refl; known = λ t e. absurd (false≢true e); once = refl })
      ∙ rw zero_more refl

plain_ids : (least i place : ℕ) (slots options : List Slot)
    → ids_of (plain_args least i place slots ++ map option_arg options) ≡ names_of slots ++ names_of options
plain_ids least i place [] [] = refl
plain_ids least i place [] (s ∷ options) = ap (λ ns. s.name ∷ ns) (plain_ids least i place [] options)
plain_ids least i place (s ∷ slots) options =
    ap (λ ns. s.name ∷ ns) (plain_ids least (i + 1) (place_after place) slots options)

sound_parts : (u : Usage) → is_sound u ≡ true
    → (different (names_of u.plains ++ names_of u.options) ≡ true) × (u.least ≤ length u.plains) × (length u.plains ≤ 1000)
sound_parts u e =
    let (diff, sizes) = and_both (different (names_of u.plains ++ names_of u.options)) _ e in
    let (enough, few) = and_both (nat_le u.least (length u.plains)) _ sizes in
    (diff, leb-true _ _ enough, leb-true _ _ few)

pub sound_different : (u : Usage) → is_sound u ≡ true → are_different (args_for u) ≡ true
sound_different u e = ap different (plain_ids u.least 0 1 u.plains u.options) ∙ (sound_parts u e).0

pub sound_use : (u : Usage) → is_sound u ≡ true → (items : List Item)
    → take_items (args_for u) items [] 1 ≡ is_use u items
sound_use u e items = let (diff, enough, few) = sound_parts u e in take_is_use u diff enough few items

pub sound_values : (u : Usage) → is_sound u ≡ true → (items : List Item) → is_use u items ≡ true
    → given_after (args_for u) items [] 1 ≡ values_in u.plains items
sound_values u e items used = let (diff, enough, few) = sound_parts u e in use_values u diff enough few items used
