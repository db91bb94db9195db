use Rattle.factor_table.proofs.Words.{value_of_word}
use Rattle.factor_table.proofs.lookups.answer_of.Goals as goal

pub returns-else-word-eq18446744073709551615 : goal.returns-else-word-eq18446744073709551615
returns-else-word-eq18446744073709551615 c =
    λ m f small word. value_of_word m f c.args.word word c.if-word-eq18446744073709551615.false
