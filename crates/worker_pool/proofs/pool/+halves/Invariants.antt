use Rattle.std.proofs.Common.{length, ◌+◌, ◌-◌, ◌*◌}
use Rattle.worker_pool.proofs.pool.+halves.Given as goal

abbrev pub decreases-run_both-back : goal.decreases-run_both-back
decreases-run_both-back g l = 3 * length l.high_seats.now + 1

abbrev pub decreases-run_both-front : goal.decreases-run_both-front
decreases-run_both-front g l = 3 * length l.low_seats.now + 1

abbrev pub decreases-run_all : goal.decreases-run_all
decreases-run_all g l = 3 * length l.seats.now

abbrev pub decreases-run_both : goal.decreases-run_both
decreases-run_both g l = 3 * (length l.low_seats.now + length l.high_seats.now) - 1
