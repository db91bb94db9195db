use Rattle.std.proofs.Common.{arith}
use Rattle.claim_table.proofs.Moves.{opens}
use Rattle.claim_table.proofs.cursor.open.Goals as goal

pub of_words-requires : goal.of_words-requires
of_words-requires c = opens (Unit {0}) _ (omega arith, omega arith)
