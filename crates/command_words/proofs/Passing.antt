-- Which arguments of clap the words after a command belong to, and when their items pass one by one: the value of an option
-- is the next word, if it does not stand behind a `=`.
use Rattle.std.proofs.Common.{◌≡◌, ℕ, ◌==◌, List, [], ◌∷◌, ◌++◌, map, find, Option, Some, None, option_map, is_some, Bool, true, false, not, ◌&&◌, slice_get, refl, sym, subst}
use Rattle.std.proofs.lemmas.Option.{same_Some}
use Rattle.std.specs.List.{list_any}
use Rattle.std.specs.Str.{bytes_eq, chars}
use Rattle.std.specs.Bool.{if◌then◌else◌}
use Rattle.std.specs.Option.{option_map_or}
use Rattle.clap.specs.Lexer.{short_of}
use Rattle.clap.specs.Walk.{Row, Text, has_long}
use Rattle.clap.specs.Simple.{Shape, new_shape}
use Rattle.clap.specs.Kinds.{Kinds, or_else}
use Rattle.command_words.specs.Words.{Item, plain, option}
use Rattle.command_words.specs.Rows.{has_name}
use Rattle.command_words.proofs.Items.{Items, Rest, more}
use Rattle.command_words.proofs.Args.{Arg, rule_at, place_after}
use Rattle.command_words.proofs.Rows.{Given, empty, passes}
use Rattle.command_words.proofs.Bools.{and_false, and_both, not_true}

-- a command with these arguments, as it is built below the one that has the table
abbrev pub leaf : Text → List Arg → Shape
leaf name args =
    record (new_shape name) { rules = map rule_at args; disable_help_flag = true; disable_help_subcommand = true; is_built = true }

-- ---- which arguments words mean, and what the items do to what was given

abbrev pub by_long : List Arg → Text → Option Arg
by_long args name = find (λ a. not (is_some (rule_at a).index) && has_long (rule_at a) name) args

abbrev pub by_place : List Arg → ℕ → Option Arg
by_place args i = find (λ a. option_map_or (λ k. k == i) (rule_at a).index false) args

-- a required argument was not given
abbrev pub lacks : List Arg → Given → Bool
lacks args given = list_any (λ a. a.required && not (has_name a.id given)) args

abbrev pub then_use : Option Arg → Text → Given → (Given → Bool) → Bool
then_use None x given next = false
then_use (Some a) x given next = passes a x given && next (given ++ (a.id, x) ∷ [])

-- the items pass, one by one, from the position i on
abbrev pub take_items : List Arg → List Item → Given → ℕ → Bool
take_items args [] given i = not (lacks args given)
take_items args (plain w ∷ is) given i = then_use (by_place args i) w given (λ g. take_items args is g (place_after i))
take_items args (option name v ∷ is) given i = then_use (by_long args name) v given (λ g. take_items args is g i)

-- what was given after an item, and after all the items
abbrev pub put : Option Arg → Text → Given → Given
put None x given = given
put (Some a) x given = given ++ (a.id, x) ∷ []

abbrev pub given_after : List Arg → List Item → Given → ℕ → Given
given_after args [] given i = given
given_after args (plain w ∷ is) given i = given_after args is (put (by_place args i) w given) (place_after i)
given_after args (option name v ∷ is) given i = given_after args is (put (by_long args name) v given) i

-- ---- small facts

pub from_more : (x : Item) (items : Items) (is : List Item) (P : List Item → Type 0) → more x items ≡ Some is
    → ((js : List Item) → items ≡ Some js → P (x ∷ js)) → P is
from_more x None is P e h = cc
from_more x (Some js) is P e h = subst P (same_Some (x ∷ js) is e) (h js refl)

pub from_rest : (name : Text) (rest : Rest) (is : List Item) (P : List Item → Type 0)
    → option_map (λ r. option name r.0 ∷ r.1) rest ≡ Some is
    → ((r : Text × List Item) → rest ≡ Some r → P (option name r.0 ∷ r.1)) → P is
from_rest name None is P e h = cc
from_rest name (Some r) is P e h = subst P (same_Some (option name r.0 ∷ r.1) is e) (h r refl)

pub not_given : (a : Arg) (x : Text) (given : Given) → passes a x given ≡ true → has_name a.id given ≡ false
not_given a x given e = not_true (has_name a.id given) (and_both (not (has_name a.id given)) _ e).0

pub or_else_assoc : (a b c : Kinds) → or_else (or_else a b) c ≡ or_else a (or_else b c)
or_else_assoc [] b c = refl
or_else_assoc (k ∷ ks) b c = refl

-- the second fault counts if there is no first
pub both_pass : (a b : Kinds) (s t : Bool) → empty a ≡ s → (s ≡ true → empty b ≡ t) → empty (or_else a b) ≡ (s && t)
both_pass [] b s t e h = rw (← e) (h (sym e))
both_pass (k ∷ ks) b s t e h = rw (← e) refl

pub either_way : (b : Bool) (rows : List Row) → (if b then rows else rows) ≡ rows
either_way true rows = refl
either_way false rows = refl

-- ---- items behind an item

abbrev pub all_items : (List Item → Bool) → Items → Bool
all_items p items = option_map_or p items false

use_none : (o : Option Arg) (x : Text) (given : Given) → then_use o x given (λ g. false) ≡ false
use_none None x given = refl
use_none (Some a) x given = and_false _

pub plain_more : (args : List Arg) (w : Text) (items : Items) (given : Given) (i : ℕ)
    → all_items (λ is. take_items args is given i) (more (plain w) items)
    ≡ then_use (by_place args i) w given (λ g. all_items (λ is. take_items args is g (place_after i)) items)
plain_more args w None given i = sym (use_none (by_place args i) w given)
plain_more args w (Some is) given i = refl

pub option_more : (args : List Arg) (name v : Text) (items : Items) (given : Given) (i : ℕ)
    → all_items (λ is. take_items args is given i) (more (option name v) items)
    ≡ then_use (by_long args name) v given (λ g. all_items (λ is. take_items args is g i) items)
option_more args name v None given i = sym (use_none (by_long args name) v given)
option_more args name v (Some is) given i = refl

-- the option's value stands next
abbrev pub value_next : List Arg → Option Arg → Given → ℕ → Rest → Bool
value_next args o given i rest = option_map_or (λ r. then_use o r.0 given (λ g. take_items args r.1 g i)) rest false

pub rest_more : (args : List Arg) (name : Text) (rest : Rest) (given : Given) (i : ℕ)
    → all_items (λ is. take_items args is given i) (option_map (λ r. option name r.0 ∷ r.1) rest)
    ≡ value_next args (by_long args name) given i rest
rest_more args name None given i = refl
rest_more args name (Some r) given i = refl

pub value_here : (args : List Arg) (o : Option Arg) (w : Text) (items : Items) (given : Given) (i : ℕ)
    → value_next args o given i (option_map (λ is. (w, is)) items)
    ≡ then_use o w given (λ g. all_items (λ is. take_items args is g i) items)
value_here args o w None given i = sym (use_none o w given)
value_here args o w (Some is) given i = refl

pub value_unknown : (args : List Arg) (rest : Rest) (given : Given) (i : ℕ) → value_next args None given i rest ≡ false
value_unknown args None given i = refl
value_unknown args (Some r) given i = refl

-- ---- words that are text

-- the word is not `--`, and a bundle of flags has a first character, as in a text
pub record IsWord (w : Text) : Type 0 where
  pub not_dashes : bytes_eq w (45 ∷ 45 ∷ []) ≡ false
  pub flagged : (flags : Text) → short_of w ≡ Some flags → (c : ℕ) × (slice_get (chars flags) 0 ≡ Some c)

abbrev pub AreWords : List Text → Type 0
AreWords [] = Unit {0}
AreWords (w ∷ ws) = IsWord w × AreWords ws

pub no_chars : (c : ℕ) → slice_get (chars []) 0 ≡ Some c → ⊥
unfolding chars
no_chars c e = cc
