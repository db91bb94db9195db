use Rattle.std.proofs.Common.{sym}
use Rattle.clap.specs.Matches.{found_of}
use Rattle.clap.specs.Walk.{rows_of}
use Rattle.command_words.specs.Usages.{usage_of}
use Rattle.command_words.proofs.Matched.{use_given}
use Rattle.command_words.proofs.reading.given_of.Goals as goal

pub returns : goal.returns
returns c =
    use_given _ c.args.matches.now c.in_ok-given_by.field-0 c.in-Some.name.now (rows_of (found_of c.in-Some.inner.now))
    (usage_of c.in-Some-row_named.row.now)
    (sym c.in-Some.ensures.name) (sym c.in-Some.ensures.rows) (sym c.in-Some-row_named.ensures)
    c.in_ok-given_by.ensures
