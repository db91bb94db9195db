-- What follows from the definition of what arguments ask.
use Rattle.std.proofs.Common.{◌≡◌, List, Some, true, sym, ap, ap₂, subst, ◌∙◌}
use Rattle.std.proofs.lemmas.Option.{same_Some}
use Rattle.clap.specs.Walk.{Text}
use Rattle.command_words.specs.Usages.{Usage}
use Rattle.command_words.specs.Words.{Item, are_plains, plains_in}
use Rattle.command_words.specs.Taken.{AreTaken, IsUse}
use Rattle.command_words.proofs.Consequences.{one_use}
use Rattle.command_line.specs.declared.table.Commands.{Commands}
use Rattle.command_line.specs.Asked.{Asks, values_of}
use Rattle.command_line.specs.Given.{request_named}
use Rattle.command_line.specs.Requests.{Request}
use Rattle.command_line.specs.Table.{rules_of, table_of_commands}
use Rattle.command_line.proofs.Answers.{first, rule_there}
use Rattle.command_line.proofs.Rules.{answered}
use Rattle.command_line.proofs.Sound.{sound}

-- no list of arguments asks for two things
pub one_request : (c : Commands) (words : List Text) (r s : Request) → Asks c words r → Asks c words s → r ≡ s
one_request c words r s a b =
    let (same, items) = one_use _ words a.rule.usage b.rule.usage a.items b.items (sound c) a.is_use b.is_use in
    let first : request_named a.rule.usage.name (plains_in a.items) (values_of a.items) ≡ Some r =
    (answered c a.rule a.known).1 (plains_in a.items) (values_of a.items) ∙ a.asked in
    let second : request_named b.rule.usage.name (plains_in b.items) (values_of b.items) ≡ Some s =
    (answered c b.rule b.known).1 (plains_in b.items) (values_of b.items) ∙ b.asked in
    let both : request_named a.rule.usage.name (plains_in a.items) (values_of a.items) ≡ request_named b.rule.usage.name (plains_in b.items) (values_of b.items) =
    ap₂ (λ (u : Usage) (is : List Item). request_named u.name (plains_in is) (values_of is)) same items in
    same_Some r s (sym first ∙ both ∙ second)

-- arguments that are a use of one of the commands ask for something
pub taken_asks : (c : Commands) (words : List Text) → AreTaken (table_of_commands c) words
    → (request : Request) × Asks c words request
taken_asks c words (u, items, h) =
    let (rule, known, is) = rule_there (rules_of c) u h.row in
    let fit : are_plains rule.usage (plains_in items) ≡ true =
    ap (λ v. are_plains v (plains_in items)) is ∙ first (are_plains u (plains_in items)) _ h.allowed in
    let (request, asked) = (answered c rule known).0 (plains_in items) (values_of items) fit in (
      request,
      record { rule = rule; items = items; known = known; is_use = subst (λ v. IsUse (table_of_commands c) words v items) (sym is) h; asked = asked },
    )

-- and what asks for something is a use
pub asks_taken : (c : Commands) (words : List Text) (request : Request) → Asks c words request
    → AreTaken (table_of_commands c) words
asks_taken c words request a = (a.rule.usage, a.items, a.is_use)

-- arguments that are no use of a command ask for nothing
pub refusal_asks_nothing : (c : Commands) (words : List Text) → ¬ AreTaken (table_of_commands c) words
    → (request : Request) → ¬ Asks c words request
refusal_asks_nothing c words refused request a = refused (asks_taken c words request a)
