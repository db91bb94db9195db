use Rattle.std.proofs.Common.{refl}
use Rattle.sum_job.proofs.PartLaws.{empty_part}
use Rattle.sum_job.proofs.part.PartSum.clear.Goals as goal

pub returns-clause-empty : goal.returns-clause-empty
returns-clause-empty c = λ job rules seat. empty_part job _ rules seat refl refl
