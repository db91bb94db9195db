-- The arguments of a command of the table, as clap builds them.
use Rattle.std.proofs.Common.{◌≡◌, ℕ, ◌+◌, min, List, [], ◌∷◌, ◌++◌, map, Option, Some, None, option_map, Bool, true, false, ◌&&◌, ◌||◌, not, refl, ap, sym, ◌∙◌, find, cond, subst}
use Rattle.std.proofs.lemmas.Bool.{false≢true}
use Rattle.std.proofs.lemmas.Option.{same_Some}
use Rattle.std.proofs.lemmas.Slice.Eq.{bytes_eq-Decides}
use Rattle.std.specs.List.{list_any}
use Rattle.std.specs.Prelude.{nat_lt, unwrap_or}
use Rattle.std.specs.Str.{bytes_eq}
use Rattle.clap.specs.Lexer.{usize_max}
use Rattle.clap.specs.Walk.{Rule, Text}
use Rattle.clap.specs.Simple.{filled_from, new_rule}
use Rattle.clap.specs.declared.builder.action.ArgAction.TheVariants.{Set}
use Rattle.clap.specs.declared.builder.value_parser.ValueParser.TheVariants as vp
use Rattle.command_words.specs.declared.table.Limit.{Limit}
use Rattle.command_words.specs.Usages.{Slot, Usage, different, is_among}
use Rattle.command_words.specs.Clap.{option_rule, parser_for, plain_rules, rules_for}

-- an argument of clap: a slot, with its position if it is a positional argument
pub record Arg : Type 0 where
  pub id : Text
  pub limit : Limit
  pub required : Bool
  pub place : Option ℕ

abbrev pub long_for : Option ℕ → Text → Option Text
long_for None id = Some id
long_for (Some i) id = None

-- the rule of a built argument
abbrev pub rule_at : Arg → Rule
rule_at a = record (new_rule a.id) {
  long = long_for a.place a.id;
  index = a.place;
  action = Some Set;
  range = Some (record { start_inclusive = 1; end_inclusive = 1 });
  value_names = 1;
  parser = Some (unwrap_or (parser_for a.limit) vp.String);
  required = a.required;
}

abbrev pub option_arg : Slot → Arg
option_arg s = record { id = s.name; limit = s.limit; required = false; place = None }

abbrev pub plain_arg : Bool → ℕ → Slot → Arg
plain_arg required place s = record { id = s.name; limit = s.limit; required = required; place = Some place }

-- the position after this one
abbrev pub place_after : ℕ → ℕ
place_after i = min (i + 1) usize_max

abbrev pub plain_args : ℕ → ℕ → ℕ → List Slot → List Arg
plain_args least i place [] = []
plain_args least i place (s ∷ slots) =
    plain_arg (nat_lt i least) place s ∷ plain_args least (i + 1) (place_after place) slots

abbrev pub args_for : Usage → List Arg
args_for u = plain_args u.least 0 1 u.plains ++ map option_arg u.options

options_built : (place : ℕ) (slots : List Slot)
    → filled_from place (map option_rule slots) ≡ map rule_at (map option_arg slots)
options_built place [] = refl
options_built place (s ∷ slots) = ap (λ rs. rule_at (option_arg s) ∷ rs) (options_built place slots)

plains_built : (least i place : ℕ) (slots options : List Slot)
    → filled_from place (plain_rules least i slots ++ map option_rule options)
    ≡ map rule_at (plain_args least i place slots ++ map option_arg options)
plains_built least i place [] options = options_built place options
plains_built least i place (s ∷ slots) options =
    ap (λ rs. rule_at (plain_arg (nat_lt i least) place s) ∷ rs)
    (plains_built least (i + 1) (place_after place) slots options)

-- the rules of a command of the table, below the one that has the table
pub rules_built : (u : Usage) → filled_from 1 (rules_for u) ≡ map rule_at (args_for u)
rules_built u = plains_built u.least 0 1 u.plains u.options

-- ---- the arguments by their names and places

found_step : {A B : Type 0} (f : A → B) (b : Bool) (x : A) (l : Option B) (r : Option A) → l ≡ option_map f r
    → cond b (Some (f x)) l ≡ option_map f (cond b (Some x) r)
found_step f true x l r e = refl
found_step f false x l r e = e

pub find_map : {A B : Type 0} (f : A → B) (p : B → Bool) (xs : List A)
    → find p (map f xs) ≡ option_map f (find (λ x. p (f x)) xs)
find_map f p [] = refl
find_map f p (x ∷ xs) = found_step f (p (f x)) x _ _ (find_map f p xs)

-- what is found passes if all pass
found_fails : {A : Type 0} (q r : A → Bool) (xs : List A) (a : A) → list_any r xs ≡ false → find q xs ≡ Some a
    → r a ≡ false
found_fails q r [] a none e = cc
found_fails q r (x ∷ xs) a none e = step (q x) (r x) (list_any r xs) (find q xs) refl none e (found_fails q r xs a)
  where
    step : (b c d : Bool) (o : Option _) → r x ≡ c → (c || d) ≡ false → cond b (Some x) o ≡ Some a
        → (d ≡ false → o ≡ Some a → r a ≡ false) → r a ≡ false
    step true false d o here none e rest = subst (λ y. r y ≡ false) (same_Some x a e) here
    step false false d o here none e rest = rest none e
    step b true d o here none e rest = absurd (false≢true (sym none))

abbrev pub named : List Arg → Text → Option Arg
named args id = find (λ b. bytes_eq b.id id) args

pub same_text : (t : Text) → bytes_eq t t ≡ true
same_text t = (bytes_eq-Decides t t).1 refl

pub flipped : (s t : Text) → bytes_eq s t ≡ bytes_eq t s
flipped s t = step (bytes_eq s t) (bytes_eq t s) refl refl
  where
    step : (b c : Bool) → bytes_eq s t ≡ b → bytes_eq t s ≡ c → b ≡ c
    step true true e f = refl
    step false false e f = refl
    step true false e f = absurd (false≢true (sym f ∙ (bytes_eq-Decides t s).1 (sym ((bytes_eq-Decides s t).0 e))))
    step false true e f = absurd (false≢true (sym e ∙ (bytes_eq-Decides s t).1 (sym ((bytes_eq-Decides t s).0 f))))

abbrev pub ids_of : List Arg → List Text
ids_of args = map (λ a. a.id) args

-- no two arguments have the same name
abbrev pub are_different : List Arg → Bool
are_different args = different (ids_of args)

among_ids : (t : Text) (args : List Arg) → is_among t (ids_of args) ≡ list_any (λ b. bytes_eq b.id t) args
among_ids t [] = refl
among_ids t (a ∷ args) = ap (λ b. bytes_eq a.id t || b) (among_ids t args)

-- what is found in any way is found by its name
pub found_named : (q : Arg → Bool) (args : List Arg) (a : Arg) → are_different args ≡ true → find q args ≡ Some a
    → named args a.id ≡ Some a
found_named q [] a different e = cc
found_named q (x ∷ xs) a different e =
    step (q x) (is_among x.id (ids_of xs)) (are_different xs) (find q xs) refl refl different e (found_named q xs a)
  where
    step : (b c d : Bool) (o : Option Arg) → is_among x.id (ids_of xs) ≡ c → find q xs ≡ o → (not c && d) ≡ true
        → cond b (Some x) o ≡ Some a → (d ≡ true → o ≡ Some a → named xs a.id ≡ Some a)
        → cond (bytes_eq x.id a.id) (Some x) (named xs a.id) ≡ Some a
    step b true d o none is different e rest = absurd (false≢true different)
    step true false d o none is different e rest = let same = same_Some x a e in rw (← same, same_text x.id) refl
    step false false d o none is different e rest =
        let other : bytes_eq x.id a.id ≡ false =
        flipped x.id a.id ∙ found_fails q (λ b. bytes_eq b.id x.id) xs a (sym (among_ids x.id xs) ∙ none) (is ∙ e) in
        rw other (rest different e)
