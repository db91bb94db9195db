use Rattle.std.proofs.Common.{◌≡◌, ℕ, ◌+◌, ◌<◌, ◌≤◌, eqb, length, get_or}
use Rattle.std.specs.Prelude.{count_by}
use Rattle.worker_pool.proofs.shares.Shares.raise.Given as goal

abbrev pub invariant-loop-worker : goal.invariant-loop-worker
invariant-loop-worker l = record {
  workers : l.self-inside.workers ≡ l.initial.self-inside.workers;
  places : length l.self-inside.counts ≡ 64;
  raised : (k : ℕ) → k < l.worker
      → get_or l.self-inside.counts k 0 ≡ get_or l.initial.self-inside.counts k 0 + count_by (λ o. eqb o k) l.owners;
  rest : (k : ℕ) → l.worker ≤ k → get_or l.self-inside.counts k 0 ≡ get_or l.initial.self-inside.counts k 0;
}
