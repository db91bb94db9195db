use Rattle.cross_job.proofs.PartLists.{any_order}
use Rattle.cross_job.proofs.job.CrossJob.new.Goals as goal

pub returns-clause-any_order : goal.returns-clause-any_order
returns-clause-any_order c = λ part pairs others moves stand. any_order _ _ pairs others moves stand
