-- The command is one of those that clap's clause `kinds` speaks of, whatever the table.
use Rattle.std.proofs.Common.{◌≡◌, ℕ, ◌+◌, List, [], ◌∷◌, ◌++◌, map, is_some, true, false, ◌&&◌, refl}
use Rattle.std.specs.List.{list_all, list_any}
use Rattle.std.specs.Prelude.{count_by}
use Rattle.clap.specs.Walk.{Rule, Text, is_early_multiple}
use Rattle.clap.specs.Simple.{App, built, is_buildable, is_ready, is_ready_leaf, is_simple_leaf}
use Rattle.clap.specs.Faults.{has_free_rules, is_free_app, is_simple_and_free}
use Rattle.command_words.specs.Usages.{Slot, Usage}
use Rattle.command_words.specs.Clap.{app_for, option_rule, plain_rules, shape_for}
use Rattle.command_words.proofs.Args.{Arg, args_for, rule_at}
use Rattle.command_words.proofs.Top.{leaf_for, whole, whole_built}
use Rattle.command_words.proofs.Bools.{and_false}

options_simple : (options : List Slot) → list_all (λ (a : Rule). a.is_simple) (map option_rule options) ≡ true
options_simple [] = refl
options_simple (s ∷ options) = options_simple options

rules_simple : (least i : ℕ) (slots options : List Slot)
    → list_all (λ (a : Rule). a.is_simple) (plain_rules least i slots ++ map option_rule options) ≡ true
rules_simple least i [] options = options_simple options
rules_simple least i (s ∷ slots) options = rules_simple least (i + 1) slots options

subs_simple : (table : List Usage) → list_all is_simple_leaf (map shape_for table) ≡ true
subs_simple [] = refl
subs_simple (u ∷ table) = rw (rules_simple u.least 0 u.plains u.options) (subs_simple table)

args_simple : (args : List Arg) → list_all (λ (a : Rule). a.is_simple) (map rule_at args) ≡ true
args_simple [] = refl
args_simple (a ∷ args) = args_simple args

args_free : (args : List Arg) → list_all (λ (a : Rule). a.is_free) (map rule_at args) ≡ true
args_free [] = refl
args_free (a ∷ args) = args_free args

-- each argument has one value
never_early : (n : ℕ) (args : List Arg) → list_any (is_early_multiple n) (map rule_at args) ≡ false
never_early n [] = refl
never_early n (a ∷ args) = rw (and_false (is_some a.place), never_early n args) refl

leaves_ready : (table : List Usage) → list_all is_ready_leaf (map leaf_for table) ≡ true
leaves_ready [] = refl
leaves_ready (u ∷ table) =
    rw (args_simple (args_for u), never_early (count_by (λ (a : Rule). is_some a.index) (map rule_at (args_for u))) (args_for u)) (leaves_ready table)

leaves_free : (table : List Usage) → list_all has_free_rules (map leaf_for table) ≡ true
leaves_free [] = refl
leaves_free (u ∷ table) = rw (args_free (args_for u)) (leaves_free table)

-- the test, of what is built
built_free : (program : Text) (table : List Usage) (a : App) → a ≡ whole program table
    → ((is_buildable (app_for program table) && (is_ready a.top && list_all is_ready_leaf a.subs)) && is_free_app a) ≡ true
built_free program table a e = rw (e, subs_simple table, leaves_ready table, leaves_free table) refl

pub is_free : (program : Text) (table : List Usage) → is_simple_and_free (app_for program table) ≡ true
is_free program table = built_free program table (built (app_for program table)) (whole_built program table)
