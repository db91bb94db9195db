use Rattle.std.proofs.Common.{rules, arith}
use Rattle.claim_table.proofs.Moves.{sees}
use Rattle.claim_table.proofs.Lists.{all_at_most}
use Rattle.claim_table.proofs.cursor.CursorSeatClaimer.least_bad.Goals as goal

pub load-requires : goal.load-requires
load-requires c = (search rules, omega arith, sees (Unit {0}) _ _ _ _ c.args.self.now.one_record)

pub returns-clause-least : goal.returns-clause-least
returns-clause-least c = all_at_most _ _ c.load.ensures.2.1
