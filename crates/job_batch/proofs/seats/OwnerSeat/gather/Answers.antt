use Rattle.job_batch.proofs.Moves.{gathers}
use Rattle.job_batch.proofs.seats.OwnerSeat.gather.Goals as goal

pub absorb-requires-clause-rule : goal.absorb-requires-clause-rule
absorb-requires-clause-rule c = gathers _ _ _ _ c.requires.seated
