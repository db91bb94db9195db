use Rattle.job_batch.proofs.Moves.{pushes}
use Rattle.job_batch.proofs.seats.OwnerSeat.push.Goals as goal

pub push_as-requires-clause-pushes : goal.push_as-requires-clause-pushes
push_as-requires-clause-pushes c = pushes _ _ _ c.requires.alone c.requires.is_new
