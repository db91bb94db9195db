use Rattle.locus_core.proofs.Reported.{done_reported, no_inverse_reported, paused_reported}
use Rattle.locus_core.proofs.sums.report_of.Goals as goal

pub returns-in-Done : goal.returns-in-Done
returns-in-Done c = done_reported _ _ _ _ _ c.done.result c.in-Done.is c.problem.ensures.value c.as_slice.ensures c.done.ensures

pub returns-in-NoInverse : goal.returns-in-NoInverse
returns-in-NoInverse c = no_inverse_reported _ _ _ _ _ c.no_inverse.result c.in-NoInverse.is c.problem-in-NoInverse.ensures.value c.no_inverse.ensures.status c.no_inverse.ensures.text

pub returns-in_ok-write-in-Paused : goal.returns-in_ok-write-in-Paused
returns-in_ok-write-in-Paused c plan = paused_reported _ _ _ _ _ _ plan c.in-Paused.is c.with_progress-state.ensures.value c.in_ok-write-in-Paused.ensures
