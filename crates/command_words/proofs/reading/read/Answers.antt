-- There are five ways out. The first look refuses exactly its arguments; `clap` refuses exactly those that are no use
-- of a command of the table, unless memory is refused; and matches that `clap` found give a command of the table with
-- its values.
use Rattle.std.proofs.Common.{◌≢◌, ◌∙◌, sym, rules}
use Rattle.clap.specs.Values.{kind_of}
use Rattle.clap.specs.declared.error.kind.ErrorKind.TheVariants.{OutOfMemory}
use Rattle.command_words.proofs.Law.{are_refused, given_none, given_ok, not_refused, not_taken}
use Rattle.command_words.proofs.reading.read.Goals as goal
use Rattle.command_words.proofs.reading.read.Goals.{in-Ok-format, in-Err-format}

pub returns-then-has_refused_word : goal.returns-then-has_refused_word
returns-then-has_refused_word c = record { answer = are_refused c.args.words.now (sym c.has_refused_word.ensures ∙ c.if-has_refused_word.true) }

pub returns-in-Err : goal.returns-in-Err
returns-in-Err c = record { answer = not_refused c.args.words.now (sym c.has_refused_word.ensures ∙ c.if-has_refused_word.false) }

pub returns-in-Err-2 : goal.returns-in-Err-2
returns-in-Err-2 c =
    let passes = sym c.has_refused_word.ensures ∙ c.if-has_refused_word.false in
    let other : kind_of c.in-Err-2.error ≢ OutOfMemory = search rules in
    record {
      answer = elim c.match-format.branch [
        | in-Ok-format w ↦ rw w.result-is (not_refused c.args.words.now passes, not_taken c.args.program.name.now _ c.args.words.now c.requires.sound passes (c.in-Err-2.ensures.err other))
        | in-Err-format w ↦ rw w.result-is (not_refused c.args.words.now passes)
      ];
    }

pub returns-in-Ok-Some : goal.returns-in-Ok-Some
returns-in-Ok-Some c =
    let passes = sym c.has_refused_word.ensures ∙ c.if-has_refused_word.false in
    record { answer = given_ok c.args.program.name.now _ c.args.words.now c.in-Ok.matches c.in-Ok-Some.field-0 c.in-Ok-Some.found c.requires.sound passes c.in-Ok.ensures.ok c.in-Ok.ensures.found c.in-Ok-Some.ensures c.in-Ok-Some.field-0-is }

pub unreachable-requires : goal.unreachable-requires
unreachable-requires c =
    let passes = sym c.has_refused_word.ensures ∙ c.if-has_refused_word.false in
    given_none c.args.program.name.now _ c.args.words.now c.in-Ok.matches c.in-Ok-None.field-0 c.requires.sound passes c.in-Ok.ensures.ok c.in-Ok.ensures.found c.in-Ok-None.ensures c.in-Ok-None.field-0-is

pub returns : goal.returns
returns c = record { answer = not_refused c.args.words.now (sym c.has_refused_word.ensures ∙ c.if-has_refused_word.false) }
