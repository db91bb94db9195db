-- Which argument of clap the next plain word or an option of a given name belongs to, and which required arguments are
-- missing.
use Rattle.std.proofs.Common.{◌≡◌, cond, ℕ, ◌+◌, ◌<◌, ◌≤◌, ◌==◌, List, [], ◌∷◌, ◌++◌, map, length, Option, Some, None, option_map, Bool, true, false, not, ◌&&◌, ◌||◌, refl, ap, sym, subst, ◌∙◌, arith}
use Rattle.std.proofs.lemmas.Bool.{false≢true, leb-true, leb-false, le-leb, ltb-true, ltb-false}
use Rattle.std.proofs.lemmas.Bool.Decides.{Decides-eqb}
use Rattle.std.proofs.lemmas.Option.{same_Some}
use Rattle.std.proofs.lemmas.List.Folds.{list_any-append}
use Rattle.std.proofs.lemmas.Slice.Eq.{bytes_eq-Decides}
use Rattle.std.specs.Prelude.{nat_lt, nat_le}
use Rattle.std.specs.Str.{bytes_eq}
use Rattle.clap.specs.Walk.{Text}
use Rattle.command_words.specs.Usages.{Slot, different, is_among, names_of}
use Rattle.command_words.specs.Words.{slot_named}
use Rattle.command_words.specs.Rows.{has_name}
use Rattle.command_words.proofs.Args.{Arg, option_arg, place_after, plain_arg, plain_args, same_text}
use Rattle.command_words.proofs.Rows.{Given}
use Rattle.command_words.proofs.Passing.{by_long, by_place, lacks}
use Rattle.command_words.proofs.Bools.{or_true, or_end, or_false, and_both, not_true}

-- ---- names that differ

-- a name of the first list is none of the second
pub apart : (xs ys : List Text) (t : Text) → different (xs ++ ys) ≡ true → is_among t xs ≡ true → is_among t ys ≡ false
apart [] ys t d e = absurd (false≢true e)
apart (x ∷ xs) ys t d e =
    let (head, tail) = and_both (not (is_among x (xs ++ ys))) _ d in
    step (bytes_eq x t) refl e (or_false _ _ (sym (list_any-append _ xs ys) ∙ not_true _ head)).1 (apart xs ys t tail)
  where
    step : (b : Bool) → bytes_eq x t ≡ b → (b || is_among t xs) ≡ true → is_among x ys ≡ false
        → (is_among t xs ≡ true → is_among t ys ≡ false) → is_among t ys ≡ false
    step true here e none rest = subst (λ s. is_among s ys ≡ false) ((bytes_eq-Decides x t).0 here) none
    step false here e none rest = rest e

-- ---- the argument of clap to which the next plain word belongs

eq_false : (a b : ℕ) → a < b → (a == b) ≡ false
eq_false a b lt = step (a == b) refl
  where
    step : (c : Bool) → (a == b) ≡ c → c ≡ false
    step true e = let same : a ≡ b = (Decides-eqb a b).0 e in absurd (omega arith)
    step false e = refl

eq_true : (a b : ℕ) → a ≡ b → (a == b) ≡ true
eq_true a b e = (Decides-eqb a b).1 e

pub next_place : (i : ℕ) → i ≤ 2000 → place_after i ≡ i + 1
next_place i le = omega arith

abbrev pub first_arg : ℕ → ℕ → ℕ → List Slot → Option Arg
first_arg least i place [] = None
first_arg least i place (s ∷ slots) = Some (plain_arg (nat_lt i least) place s)

no_place : (options : List Slot) (q : ℕ) → by_place (map option_arg options) q ≡ None
no_place [] q = refl
no_place (s ∷ options) q = no_place options q

pub place_found : (least i place : ℕ) (before slots options : List Slot) (j q : ℕ) → j ≡ i + length before
    → q ≡ place + length before → q ≤ 2000
    → by_place (plain_args least i place (before ++ slots) ++ map option_arg options) q ≡ first_arg least j q slots
place_found least i place [] [] options j q e f le = no_place options q
place_found least i place [] (s ∷ slots) options j q e f le =
    let here : place ≡ q = omega arith in
    let same : i ≡ j = omega arith in
    rw (eq_true place q here, here, same) refl
place_found least i place (b ∷ before) slots options j q e f le =
    let later : place < q = omega arith in
    let small : place ≤ 2000 = omega arith in
    rw (eq_false place q later, next_place place small) (place_found least (i + 1) (place + 1) before slots options j q (omega arith) (omega arith) le)

-- ---- the argument of an option

found_step : (b c : Bool) (s : Slot) (l : Option Arg) (r : Option Slot) → c ≡ b → l ≡ option_map option_arg r
    → cond c (Some (option_arg s)) l ≡ option_map option_arg (cond b (Some s) r)
found_step true true s l r e f = refl
found_step false false s l r e f = f
found_step true false s l r e f = absurd (false≢true e)
found_step false true s l r e f = absurd (false≢true (sym e))

long_slots : (options : List Slot) (name : Text)
    → by_long (map option_arg options) name ≡ option_map option_arg (slot_named options name)
long_slots [] name = refl
long_slots (s ∷ options) name =
    found_step (bytes_eq s.name name) _ s _ _ (or_end (bytes_eq s.name name)) (long_slots options name)

pub long_found : (least i place : ℕ) (slots options : List Slot) (name : Text)
    → by_long (plain_args least i place slots ++ map option_arg options) name ≡ option_map option_arg (slot_named options name)
long_found least i place [] options name = long_slots options name
long_found least i place (s ∷ slots) options name = long_found least (i + 1) (place_after place) slots options name

pub slot_found : (options : List Slot) (name : Text) (s : Slot) → slot_named options name ≡ Some s
    → (s.name ≡ name) × (is_among name (names_of options) ≡ true)
slot_found [] name s e = cc
slot_found (o ∷ options) name s e = step (bytes_eq o.name name) refl e (slot_found options name s)
  where
    step : (b : Bool) → bytes_eq o.name name ≡ b → cond b (Some o) (slot_named options name) ≡ Some s
        → (slot_named options name ≡ Some s → (s.name ≡ name) × (is_among name (names_of options) ≡ true))
        → (s.name ≡ name) × ((b || is_among name (names_of options)) ≡ true)
    step true here e rest =
        let same = same_Some o s e in (ap (λ x. x.name) (sym same) ∙ (bytes_eq-Decides o.name name).0 here, refl)
    step false here e rest = rest e

-- ---- what is lacking

abbrev AreGiven : List Slot → Given → Type 0
AreGiven slots given = (t : Text) → is_among t (names_of slots) ≡ true → has_name t given ≡ true

abbrev pub AreNew : List Slot → Given → Type 0
AreNew slots given = (t : Text) → is_among t (names_of slots) ≡ true → has_name t given ≡ false

pub first_among : (s : Slot) (slots : List Slot) → is_among s.name (names_of (s ∷ slots)) ≡ true
first_among s slots = rw (same_text s.name) refl

more_among : (s : Slot) (slots : List Slot) (t : Text) → is_among t (names_of slots) ≡ true
    → is_among t (names_of (s ∷ slots)) ≡ true
more_among s slots t e = rw e (or_true (bytes_eq s.name t))

lacks_options : (options : List Slot) (given : Given) → lacks (map option_arg options) given ≡ false
lacks_options [] given = refl
lacks_options (s ∷ options) given = lacks_options options given

lacks_test : (least i : ℕ) (d : Bool) → not d ≡ nat_le least (i + 1)
    → not ((nat_lt i least && true) || d) ≡ nat_le least i
lacks_test least i d h = step (nat_lt i least) (nat_le least i) (nat_le least (i + 1)) d refl refl refl h
  where
    step : (b c m d : Bool) → nat_lt i least ≡ b → nat_le least i ≡ c → nat_le least (i + 1) ≡ m → not d ≡ m
        → not ((b && true) || d) ≡ c
    step true true m d e f g h =
        let up : i < least = ltb-true i least e in let down : least ≤ i = leb-true least i f in absurd (omega arith)
    step true false m d e f g h = refl
    step false true true d e f g h = h
    step false true false d e f g h =
        let down : least ≤ i = leb-true least i f in
        let up : i + 1 < least = leb-false least (i + 1) g in absurd (omega arith)
    step false false m d e f g h =
        let down : least ≤ i = ltb-false i least e in let up : i < least = leb-false least i f in absurd (omega arith)

-- the first is new, so it is missing if it is required
lacks_slots : (least i place : ℕ) (slots options : List Slot) (given : Given) → AreNew slots given
    → least ≤ i + length slots
    → not (lacks (plain_args least i place slots ++ map option_arg options) given) ≡ nat_le least i
lacks_slots least i place [] options given new le =
    rw (lacks_options options given) (sym (le-leb least i (omega arith)))
lacks_slots least i place (s ∷ slots) options given new le =
    let tail =
    lacks_slots least (i + 1) (place_after place) slots options given (λ t e. new t (more_among s slots t e))
    (omega arith) in
    rw (new s.name (first_among s slots)) (lacks_test least i _ tail)

lacks_more : (b d : Bool) → ((b && false) || d) ≡ d
lacks_more true d = refl
lacks_more false d = refl

-- what was given is not lacking
pub lacks_after : (least i place : ℕ) (before slots options : List Slot) (given : Given) (j : ℕ) → j ≡ i + length before
    → AreGiven before given → AreNew slots given → least ≤ j + length slots
    → not (lacks (plain_args least i place (before ++ slots) ++ map option_arg options) given) ≡ nat_le least j
lacks_after least i place [] slots options given j e old new le =
    let same : i ≡ j = omega arith in
    let fits : least ≤ i + length slots = omega arith in
    lacks_slots least i place slots options given new fits ∙ ap (nat_le least) same
lacks_after least i place (b ∷ before) slots options given j e old new le =
    rw (old b.name (first_among b before), lacks_more (nat_lt i least) _)
    (lacks_after least (i + 1) (place_after place) before slots options given j (omega arith) (λ t h. old t (more_among b before t h)) new le)
