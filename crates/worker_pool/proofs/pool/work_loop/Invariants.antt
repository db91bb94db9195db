use Rattle.std.proofs.Common.{◌≡◌, ℕ, ◌≤◌, ◌+◌, ◌-◌, Bool, List, ◌++◌, length}
use Rattle.std.specs.Prelude.{All}
use Rattle.claim_table.specs.Counts.{nothing_bad}
use Rattle.worker_pool.specs.Rounds.{worked}
use Rattle.worker_pool.proofs.pool.work_loop.Given as goal

abbrev pub invariant-loop-block : goal.invariant-loop-block
invariant-loop-block g l = record {
  seat : g.C.Claimer.sits_at l.seat l.board × g.C.Claimer.is_free l.seat;
  ready : g.J.Job.is_ready l.job l.part;
  turn : l.turn + length (g.C.Claimer.record_of l.initial.seat).taken ≡ length (g.C.Claimer.record_of l.seat).taken;
  works : (pairs : List (ℕ × ℕ)) × (dry : Bool)
      × (g.C.Claimer.record_of l.seat ≡ worked (g.J.Job.least_bad l.job)
      (g.C.Claimer.record_of l.initial.seat) pairs dry)
      × ((x : List (ℕ × ℕ)) → g.J.Job.stands_for l.job l.initial.part x
      → g.J.Job.stands_for l.job l.part (x ++ pairs)) × All (λ p. p.1 ≤ nothing_bad) pairs;
}

abbrev pub decreases-loop-block : goal.decreases-loop-block
decreases-loop-block g l = (g.C.Claimer.plan_of l.board).blocks - length (g.C.Claimer.record_of l.seat).taken
