-- The rows that the words after a command leave.
use Rattle.std.proofs.Common.{◌≡◌, List, [], ◌∷◌, ◌++◌, Some, Bool, true, false, not, ◌&&◌, ◌||◌, cond, refl, ap, ◌∙◌}
use Rattle.std.specs.Prelude.{unwrap_or}
use Rattle.std.specs.Str.{bytes_eq}
use Rattle.std.specs.Bool.{if◌then◌else◌}
use Rattle.clap.specs.Values.{reading_of}
use Rattle.clap.specs.Facts.{parser_of_value}
use Rattle.clap.specs.Walk.{Text, has_row, used, with_values, without}
use Rattle.clap.specs.Takes.{is_given}
use Rattle.clap.specs.Kinds.{Kinds, or_else, value_kinds}
use Rattle.clap.specs.Faults.{use_fault}
use Rattle.clap.specs.declared.builder.value_parser.Reading.TheVariants.{AsWritten}
use Rattle.clap.specs.declared.builder.value_parser.ValueParser.TheVariants as vp
use Rattle.clap.specs.declared.error.kind.ErrorKind.TheVariants as kind
use Rattle.clap.specs.declared.parser.matches.ValueSource.TheVariants.{CommandLine}
use Rattle.command_words.specs.declared.table.Limit.{Limit}
use Rattle.command_words.specs.declared.table.Limit.TheVariants as limit
use Rattle.command_words.specs.Usages.{fits}
use Rattle.command_words.specs.Rows.{has_name}
use Rattle.command_words.specs.Clap.{parser_for}
use Rattle.command_words.specs.Rows.{rows_for}
use Rattle.command_words.proofs.Args.{Arg, rule_at}
use Rattle.command_words.proofs.Bools.{or_false}

abbrev pub Given : Type 0
Given = List (Text × Text)

pub row_found : (id : Text) (given : Given) → has_row id (rows_for given) ≡ has_name id given
row_found id [] = refl
row_found id (g ∷ given) = ap (λ b. bytes_eq g.0 id || b) (row_found id given)

reading_is : (l : Limit) → reading_of (parser_of_value (Some (unwrap_or (parser_for l) vp.String))) ≡ AsWritten
reading_is (limit.Number low high) = refl
reading_is limit.Text = refl

rows_without : (id : Text) (given : Given) → has_name id given ≡ false → without id (rows_for given) ≡ rows_for given
rows_without id [] none = refl
rows_without id (g ∷ given) none =
    let (other, more) = or_false (bytes_eq g.0 id) (has_name id given) none in
    rw (other, rows_without id given more)

rows_added : (id x : Text) (given : Given) → has_name id given ≡ false
    → with_values id AsWritten CommandLine (x ∷ []) (rows_for given) ≡ rows_for (given ++ (id, x) ∷ [])
rows_added id x [] none = refl
rows_added id x (g ∷ given) none =
    let (other, more) = or_false (bytes_eq g.0 id) (has_name id given) none in
    rw (other, rows_added id x given more)

-- a use of what was not given yet adds its row
pub used_rows : (a : Arg) (x : Text) (given : Given) → has_name a.id given ≡ false
    → used (rule_at a) (x ∷ []) (rows_for given) ≡ rows_for (given ++ (a.id, x) ∷ [])
used_rows a x given none = rw (reading_is a.limit, rows_without a.id given none) (rows_added a.id x given none)

pub is_given_row : (id : Text) (given : Given) → is_given id (rows_for given) ≡ has_name id given
is_given_row id [] = refl
is_given_row id (g ∷ given) = step (bytes_eq g.0 id) refl (is_given_row id given)
  where
    step : (b : Bool) → bytes_eq g.0 id ≡ b → is_given id (rows_for given) ≡ has_name id given
        → is_given id (rows_for (g ∷ given)) ≡ (b || has_name id given)
    step true e rest = rw e refl
    step false e rest = rw e rest

-- ---- faults, by whether there are any

abbrev pub empty : Kinds → Bool
empty [] = true
empty (k ∷ ks) = false

-- the use passes: its argument was not given, and the value is within its limit
abbrev pub passes : Arg → Text → Given → Bool
passes a x given = not (has_name a.id given) && fits a.limit x

value_is : (l : Limit) (x : Text)
    → empty (value_kinds false (parser_of_value (Some (unwrap_or (parser_for l) vp.String))) x) ≡ fits l x
value_is (limit.Number low high) x = tested (fits (limit.Number low high) x)
  where
    tested : (b : Bool) → empty (cond b [] (kind.ValueValidation ∷ [])) ≡ b
    tested true = refl
    tested false = refl
value_is limit.Text x = refl

use_tests : (a : Bool) (k : Kinds)
    → empty (or_else (if (a && true) then kind.ArgumentConflict ∷ [] else []) (or_else k [])) ≡ (not a && empty k)
use_tests true k = refl
use_tests false [] = refl
use_tests false (k ∷ ks) = refl

pub use_is : (a : Arg) (x : Text) (given : Given)
    → empty (use_fault false (rule_at a) (x ∷ []) (rows_for given)) ≡ passes a x given
use_is a x given =
    rw (row_found a.id given) (use_tests (has_name a.id given) _ ∙ ap (λ b. not (has_name a.id given) && b) (value_is a.limit x))
