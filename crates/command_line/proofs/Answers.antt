-- What is read of the arguments that are given to a command.
use Rattle.std.proofs.Common.{◌≡◌, ◌≢◌, zero, suc, List, [], ◌∷◌, map, Option, Some, None, option_map, Bool, true, false, ◌&&◌, refl, sym, ap, subst, ◌∙◌, arith}
use Rattle.std.proofs.lemmas.Bool.{false≢true}
use Rattle.std.proofs.lemmas.Option.{same_Some}
use Rattle.std.specs.List.{Contains}
use Rattle.clap.specs.Walk.{Text}
use Rattle.command_words.specs.declared.given.Given.{Given}
use Rattle.command_words.specs.Usages.{Usage}
use Rattle.command_words.specs.Words.{are_plains, plains_in}
use Rattle.command_words.specs.Taken.{IsGiven, IsUse}
use Rattle.command_line.specs.declared.command.Command.{Command}
use Rattle.command_line.specs.declared.table.Commands.{Commands}
use Rattle.command_line.specs.Asked.{Asks, values_of}
use Rattle.command_line.specs.Given.{options_of, plains_of, request_named}
use Rattle.command_line.specs.Requests.{Request, request_of}
use Rattle.command_line.specs.Table.{CommandRule, rules_of, table_of_commands}
use Rattle.command_line.proofs.Rules.{answered}

-- a usage of the table is that of a rule
pub rule_there : (rs : List CommandRule) (u : Usage) → Contains (map (λ r. r.usage) rs) u
    → (r : CommandRule) × Contains rs r × (r.usage ≡ u)
rule_there [] u (k, lt, is) = absurd (omega arith)
rule_there (r ∷ rs) u (zero, lt, is) = (r, (0, omega arith, refl), is)
rule_there (r ∷ rs) u (suc k, lt, is) =
    let (s, (n, less, same), of) = rule_there rs u (k, omega arith, is) in (s, (suc n, omega arith, same), of)

pub first : (a b : Bool) → (a && b) ≡ true → a ≡ true
first true b e = refl
first false b e = absurd (false≢true e)

-- what is given asks for something, and the arguments ask for it
given_asks : (c : Commands) (words : List Text) (g : Given) → IsGiven (table_of_commands c) words g
    → (request : Request) × (request_named g.command.now (plains_of g) (options_of g) ≡ Some request) × Asks c words request
given_asks c words g (u, items, h, holds) =
    let (rule, known, is) = rule_there (rules_of c) u h.row in
    let (some, found) = answered c rule known in
    let fit : are_plains rule.usage (plains_in items) ≡ true =
    ap (λ v. are_plains v (plains_in items)) is ∙ first (are_plains u (plains_in items)) _ h.allowed in
    let (request, asked) = some (plains_in items) (values_of items) fit in
    let options : options_of g ≡ values_of items = λ i name. holds.options name i in
    let named : g.command.now ≡ rule.usage.name = holds.command ∙ ap (λ (v : Usage). v.name) (sym is) in (
      request,
      rw (named, holds.plains, options) (found (plains_in items) (values_of items) ∙ asked),
      record { rule = rule; items = items; known = known; is_use = subst (λ v. IsUse (table_of_commands c) words v items) (sym is) h; asked = asked },
    )

pub asks : (c : Commands) (words : List Text) (g : Given) (r : Option Command) (command : Command)
    → IsGiven (table_of_commands c) words g
    → option_map request_of r ≡ request_named g.command.now (plains_of g) (options_of g) → r ≡ Some command
    → Asks c words (request_of command)
asks c words g r command given same is =
    let (request, found, asked) = given_asks c words g given in
    subst (Asks c words)
    (same_Some request (request_of command) (sym found ∙ sym same ∙ ap (option_map request_of) is)) asked

pub some : (c : Commands) (words : List Text) (g : Given) (r : Option Command) → IsGiven (table_of_commands c) words g
    → option_map request_of r ≡ request_named g.command.now (plains_of g) (options_of g) → r ≢ None
some c words g r given same none =
    let (request, found, asked) = given_asks c words g given in
    let wrong : None ≡ Some request = sym (ap (option_map request_of) none) ∙ same ∙ found in
    cc
