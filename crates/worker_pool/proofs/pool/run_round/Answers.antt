use Rattle.std.proofs.Common.{arith}
use Rattle.worker_pool.proofs.Ends.{clean_round}
use Rattle.worker_pool.proofs.Growth.{sum-GrewBy}
use Rattle.worker_pool.proofs.pool.run_round.Goals as goal

pub returns-clause-clean : goal.returns-clause-clean
returns-clause-clean g c = λ none. clean_round _ _ _ _ _ _ c.in_ok-round.ensures.worked none

pub returns-clause-all_shares : goal.returns-clause-all_shares
returns-clause-all_shares g c = let legal = c.in_ok-round.ensures.worked.legal in
    let blocks = legal.blocks in omega (
      arith,
      sum-GrewBy _ _ _ c.raise.ensures (λ b lt. omega (arith, legal.owned b (omega arith), c.requires.shares.0)),
    )
