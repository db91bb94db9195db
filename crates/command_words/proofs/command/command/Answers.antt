use Rattle.command_words.proofs.Building.{sub_made}
use Rattle.command_words.proofs.command.command.Goals as goal

pub loop-row-preserved : goal.loop-row-preserved
loop-row-preserved c =
    let made =
    sub_made _ _ _ _ _ _ _ c.loop-row-test.true c.in_ok-made.ensures c.in_ok-subcommand.ensures.shape c.in_ok-subcommand.ensures.local c.loop-row.invariant.0 in
    (made.0, λ some. made.1)
