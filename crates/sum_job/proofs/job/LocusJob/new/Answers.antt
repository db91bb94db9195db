use Rattle.sum_job.proofs.Orders.{any_order}
use Rattle.sum_job.proofs.job.LocusJob.new.Goals as goal

pub returns-clause-any_order : goal.returns-clause-any_order
returns-clause-any_order c = λ part pairs others moves stands. any_order _ part pairs others moves stands
