-- What each call of the builder adds to the command.
use Rattle.std.proofs.Common.{◌≡◌, ℕ, ◌+◌, ◌<◌, List, [], ◌∷◌, map, drop, get_or, length, Bool, false, ◌||◌, ap, sym, ◌∙◌, rules}
use Rattle.std.proofs.lemmas.List.{append_assoc, drop_more}
use Rattle.std.specs.Prelude.{nat_lt}
use Rattle.clap.specs.Built.{AddsArg, AddsSubcommand}
use Rattle.clap.specs.Walk.{Rule, rule_of}
use Rattle.clap.specs.Simple.{App, app_of, shape_of, with_rule, with_subcommand}
use Rattle.clap.specs.declared.builder.arg.Arg.{Arg}
use Rattle.clap.specs.declared.builder.command.Command.{Command}
use Rattle.clap.specs.declared.builder.command.Command.TheViews.{out-Command}
use Rattle.command_words.specs.declared.table.Argument.{Argument}
use Rattle.command_words.specs.declared.table.CommandRow.{CommandRow}
use Rattle.command_words.specs.Usages.{slot_of, usage_of}
use Rattle.command_words.specs.Clap.{option_rule, plain_rule, plain_rules, shape_for, with_rules, with_subs}

rule_moves : (a : App) (r : Rule) (rs : List Rule) → with_rules (with_rule a r) rs ≡ with_rules a (r ∷ rs)
rule_moves a r rs = ap (λ xs. record a { top = record a.top { rules = xs } }) (append_assoc a.top.rules (r ∷ []) rs)

added : (old new : Command) (arg : Arg) (r : Rule) (rs : List Rule) → AddsArg old arg new → rule_of arg ≡ r
    → arg.global ≡ false → with_rules (app_of new) rs ≡ with_rules (app_of old) (r ∷ rs)
added old new arg r rs adds is local =
    ap (λ a. with_rules a rs) (adds.shape local ∙ ap (with_rule (app_of old)) is) ∙ rule_moves (app_of old) r rs

no_more : (b : Bool) → (b || false) ≡ b
no_more b = search rules

pub globals_added : (old new : Command) (arg : Arg) (b : Bool) → AddsArg old arg new → arg.global ≡ false
    → (out-Command old).has_globals ≡ b → (out-Command new).has_globals ≡ b
globals_added old new arg b adds local e = adds.globals ∙ rw (local, e) (no_more b)

pub plain_made : (old new : Command) (arg : Arg) (least place : ℕ) (arguments : List Argument) (d : Argument) (base : App)
    → place < length arguments → AddsArg old arg new
    → rule_of arg ≡ plain_rule (nat_lt place least) (slot_of (get_or arguments place d)) → arg.global ≡ false
    → with_rules (app_of old) (plain_rules least place (map slot_of (drop place arguments))) ≡ base
    → with_rules (app_of new) (plain_rules least (place + 1) (map slot_of (drop (place + 1) arguments))) ≡ base
plain_made old new arg least place arguments d base lt adds is local e =
    added old new arg _ _ adds is local
    ∙ sym
    (ap (λ xs. with_rules (app_of old) (plain_rules least place (map slot_of xs))) (drop_more arguments place d lt))
    ∙ e

pub option_made : (old new : Command) (arg : Arg) (place : ℕ) (arguments : List Argument) (d : Argument) (base : App)
    → place < length arguments → AddsArg old arg new → rule_of arg ≡ option_rule (slot_of (get_or arguments place d))
    → arg.global ≡ false
    → with_rules (app_of old) (map option_rule (map slot_of (drop place arguments))) ≡ base
    → with_rules (app_of new) (map option_rule (map slot_of (drop (place + 1) arguments))) ≡ base
option_made old new arg place arguments d base lt adds is local e =
    added old new arg _ _ adds is local
    ∙ sym (ap (λ xs. with_rules (app_of old) (map option_rule (map slot_of xs))) (drop_more arguments place d lt)) ∙ e

pub sub_made : (old sub new : Command) (place : ℕ) (table : List CommandRow) (d : CommandRow) (base : App)
    → place < length table → AddsSubcommand old sub new → shape_of sub ≡ shape_for (usage_of (get_or table place d))
    → (out-Command sub).has_globals ≡ false
    → with_subs (app_of old) (map shape_for (map usage_of (drop place table))) ≡ base
    → (with_subs (app_of new) (map shape_for (map usage_of (drop (place + 1) table))) ≡ base) × ((app_of new).top.is_leaf ≡ false)
sub_made old sub new place table d base lt adds is local e =
    let made : app_of new ≡ with_subcommand (app_of old) (shape_for (usage_of (get_or table place d))) = adds.shape local ∙ ap (with_subcommand (app_of old)) is in (
      ap (λ a. with_subs a (map shape_for (map usage_of (drop (place + 1) table)))) made
          ∙ ap (λ ss. record { top = record (app_of old).top { is_leaf = false }; subs = ss })
          (append_assoc (app_of old).subs (shape_for (usage_of (get_or table place d)) ∷ []) _)
          ∙ sym (ap (λ xs. with_subs (app_of old) (map shape_for (map usage_of xs))) (drop_more table place d lt)) ∙ e,
      ap (λ (a : App). a.top.is_leaf) made,
    )
