use Rattle.command_words.proofs.Building.{globals_added, plain_made}
use Rattle.command_words.proofs.command.with_plains.Goals as goal

pub loop-index-preserved : goal.loop-index-preserved
loop-index-preserved c =
    let adds = c.in_ok-made.ensures in (
      plain_made _ _ _ _ _ _ _ _ c.loop-index-test.true adds c.plain_arg.ensures.rule c.plain_arg.ensures.local c.loop-index.invariant.0,
      globals_added _ _ _ _ adds c.plain_arg.ensures.local c.loop-index.invariant.1,
    )
