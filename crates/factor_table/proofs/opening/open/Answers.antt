use Rattle.std.proofs.Common.{◌∙◌}
use Rattle.factor_table.proofs.InitialWords.{length_blank}
use Rattle.factor_table.proofs.Moves.{opens}
use Rattle.factor_table.proofs.opening.open.Goals as goal

pub of_words-requires : goal.of_words-requires
of_words-requires c =
    let is = c.as_slice.ensures.value ∙ c.in_ok-words.ensures in
    opens (Unit {0}) c.args.parameters.now c.as_slice.result.now _ is
    (length_blank c.args.parameters.now c.as_slice.result.now is)

pub returns-clause-table : goal.returns-clause-table
returns-clause-table c =
    let made = c.in_ok-opened.ensures in
    (made.5, made.0 ∙ length_blank c.args.parameters.now c.as_slice.result.now (c.as_slice.ensures.value ∙ c.in_ok-words.ensures), made.1)
