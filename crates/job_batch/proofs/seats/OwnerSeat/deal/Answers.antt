use Rattle.job_batch.proofs.Moves.{deals}
use Rattle.job_batch.proofs.seats.OwnerSeat.deal.Goals as goal

pub another-pass-requires : goal.another-pass-requires
another-pass-requires c = deals _ _ c.requires
