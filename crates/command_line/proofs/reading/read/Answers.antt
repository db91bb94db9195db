use Rattle.std.proofs.Common.{ap, subst, ◌∙◌, map, string_bytes}
use Rattle.command_words.specs.Usages.{is_sound_table}
use Rattle.command_words.specs.Taken.{IsGiven}
use Rattle.command_line.proofs.Answers.{asks, some}
use Rattle.command_line.proofs.BuiltToday.{built_request}
use Rattle.command_line.proofs.Sound.{sound}
use Rattle.command_line.specs.Asked.{Asks}
use Rattle.command_line.proofs.Within.{asked_within}
use Rattle.command_line.specs.Requests.{request_of}
use Rattle.command_line.proofs.reading.read.Goals as goal

pub read-requires : goal.read-requires
read-requires c = record { sound = ap is_sound_table c.program.ensures ∙ sound c.args.commands }

pub unreachable-requires : goal.unreachable-requires
unreachable-requires c =
    some c.args.commands (map string_bytes c.args.words.now) c.in_ok-given.given c.request.result
    (subst (λ t. IsGiven t (map string_bytes c.args.words.now) c.in_ok-given.given) c.program.ensures c.in_ok-given.ensures.answer) c.request.ensures c.in-None.is

pub returns-clause-reading : goal.returns-clause-reading
returns-clause-reading c =
    asks c.args.commands (map string_bytes c.args.words.now) c.in_ok-given.given c.request.result c.in-Some.command
    (subst (λ t. IsGiven t (map string_bytes c.args.words.now) c.in_ok-given.given) c.program.ensures c.in_ok-given.ensures.answer) c.request.ensures c.in-Some.is

pub returns-clause-within : goal.returns-clause-within
returns-clause-within c =
    asked_within c.args.commands (map string_bytes c.args.words.now) (request_of c.in-Some.command)
    (asks c.args.commands (map string_bytes c.args.words.now) c.in_ok-given.given c.request.result c.in-Some.command
    (subst (λ t. IsGiven t (map string_bytes c.args.words.now) c.in_ok-given.given) c.program.ensures c.in_ok-given.ensures.answer) c.request.ensures c.in-Some.is)

pub returns-clause-built : goal.returns-clause-built
returns-clause-built c is =
    built_request (map string_bytes c.args.words.now) (request_of c.in-Some.command)
    (subst (λ k. Asks k (map string_bytes c.args.words.now) (request_of c.in-Some.command)) is
    (asks c.args.commands (map string_bytes c.args.words.now) c.in_ok-given.given c.request.result c.in-Some.command
    (subst (λ t. IsGiven t (map string_bytes c.args.words.now) c.in_ok-given.given) c.program.ensures c.in_ok-given.ensures.answer) c.request.ensures c.in-Some.is))
