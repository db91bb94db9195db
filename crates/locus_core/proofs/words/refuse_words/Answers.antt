use Rattle.std.proofs.Common.{map, string_bytes, sym, ◌∙◌, subst, refl}
use Rattle.std.proofs.lemmas.Bool.{false≢true}
use Rattle.command_words.specs.Taken.{IsWordsRefusal}
use Rattle.command_line.specs.Table.{table_of_commands}
use Rattle.command_line.specs.declared.table.Commands.TheVariants.{Built}
use Rattle.command_words.proofs.Consequences.{taken_not_refused}
use Rattle.command_line.proofs.Consequences.{taken_asks, refusal_asks_nothing}
use Rattle.command_line.proofs.Sound.{sound}
use Rattle.locus_core.specs.Steps.{nothing_asked, unread}
use Rattle.locus_core.proofs.words.refuse_words.Goals as goal

pub returns-in-ByCommand-clause-refuses : goal.returns-in-ByCommand-clause-refuses
returns-in-ByCommand-clause-refuses g c =
    let why = subst (IsWordsRefusal (table_of_commands Built) (map string_bytes c.args.words.now)) c.in-ByCommand.is c.requires.refusal in
    nothing_asked _ c.end.ensures.status (refusal_asks_nothing Built (map string_bytes c.args.words.now) why.1) (λ first. absurd (why.0 first)) c.end.ensures.line

pub returns-in-NoMemory-clause-refuses : goal.returns-in-NoMemory-clause-refuses
returns-in-NoMemory-clause-refuses g c =
    let (request, asks) = taken_asks Built (map string_bytes c.args.words.now) (c.are_taken.ensures.0 c.if-are_taken.true) in
    unread request c.end-in-NoMemory.ensures.status asks c.end-in-NoMemory.ensures.line

pub returns-in-NoMemory-2-clause-refuses : goal.returns-in-NoMemory-2-clause-refuses
returns-in-NoMemory-2-clause-refuses g c =
    nothing_asked _ c.end-in-NoMemory-2.ensures.status
    (refusal_asks_nothing Built (map string_bytes c.args.words.now) (λ taken. false≢true (sym c.if-are_taken.false ∙ c.are_taken.ensures.1 taken)))
    (λ first. refl) c.end-in-NoMemory-2.ensures.line

pub returns-in-Refused-clause-refuses : goal.returns-in-Refused-clause-refuses
returns-in-Refused-clause-refuses g c =
    let why = subst (IsWordsRefusal (table_of_commands Built) (map string_bytes c.args.words.now)) c.in-Refused.is c.requires.refusal in
    nothing_asked _ c.end-in-Refused.ensures.status
    (refusal_asks_nothing Built (map string_bytes c.args.words.now)
    (λ taken. taken_not_refused (table_of_commands Built) (map string_bytes c.args.words.now) (sound Built) taken why))
    (λ first. refl) c.end-in-Refused.ensures.line
