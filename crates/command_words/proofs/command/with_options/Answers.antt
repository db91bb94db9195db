use Rattle.command_words.proofs.Building.{globals_added, option_made}
use Rattle.command_words.proofs.command.with_options.Goals as goal

pub loop-argument-preserved : goal.loop-argument-preserved
loop-argument-preserved c =
    let adds = c.in_ok-made.ensures in (
      option_made _ _ _ _ _ _ _ c.loop-argument-test.true adds c.option_arg.ensures.rule c.option_arg.ensures.local c.loop-argument.invariant.0,
      globals_added _ _ _ _ adds c.option_arg.ensures.local c.loop-argument.invariant.1,
    )
