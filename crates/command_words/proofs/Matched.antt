-- What is given by the matches of a command.
use Rattle.std.proofs.Common.{◌≡◌, List, Option, Some, None, option_map, refl, sym, ap, subst, ◌∙◌}
use Rattle.std.proofs.lemmas.Option.{same_Some}
use Rattle.clap.specs.Walk.{Row, Text}
use Rattle.clap.specs.Matches.{subcommand_name_of}
use Rattle.clap.specs.Simple.{subcommand_rows_of}
use Rattle.clap.specs.declared.parser.matches.ArgMatches.{ArgMatches}
use Rattle.clap.specs.declared.parser.matches.ArgMatches.TheViews.{out-ArgMatches}
use Rattle.command_words.specs.declared.given.Given.{Given}
use Rattle.command_words.specs.Usages.{Usage}
use Rattle.command_words.specs.Rows.{GivesUse, HoldsRows, usage_named}

fused : {A B C : Type 0} (f : A → B) (g : B → C) (o : Option A)
    → option_map g (option_map f o) ≡ option_map (λ x. g (f x)) o
fused f g None = refl
fused f g (Some x) = refl

name_met : (m : ArgMatches) (name : Text) (rows : List Row) → subcommand_rows_of m ≡ Some (name, rows)
    → subcommand_name_of m ≡ Some name
name_met m name rows e =
    sym (fused _ (λ (p : Text × List Row). p.0) (out-ArgMatches m).subcommand)
    ∙ ap (option_map (λ (p : Text × List Row). p.0)) e

pub use_given : (table : List Usage) (m : ArgMatches) (g : Given) (name : Text) (inner : List Row) (row : Usage)
    → subcommand_name_of m ≡ Some name
    → option_map (λ (p : Text × List Row). p.1) (subcommand_rows_of m) ≡ Some inner → usage_named table name ≡ Some row
    → HoldsRows g row inner → GivesUse table m (Some g)
use_given table m g name inner row met values found h = λ u rows named has.
    let same : name ≡ u.name = same_Some name u.name (sym met ∙ name_met m u.name rows has) in
    let this : row ≡ u = same_Some row u (sym found ∙ ap (usage_named table) same ∙ named) in
    let these : inner ≡ rows = same_Some inner rows (sym values ∙ ap (option_map (λ (p : Text × List Row). p.1)) has) in
    (g, refl, subst (λ (v : Usage). HoldsRows g v rows) this (subst (HoldsRows g row) these h))
