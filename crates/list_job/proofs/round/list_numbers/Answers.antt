use Rattle.std.proofs.Common.{length, subst}
use Rattle.claim_table.specs.Claims.{plan}
use Rattle.worker_pool.specs.Rounds.{IsRound}
use Rattle.list_job.specs.Parts.{StandsFor}
use Rattle.list_job.specs.Jobs.{view}
use Rattle.list_job.proofs.Rounds.{after_round}
use Rattle.list_job.proofs.round.list_numbers.Goals as goal

pub returns-clause-listed : goal.returns-clause-listed
returns-clause-listed g c =
    let round = c.in_ok-run_round.field-0 in
    let before = c.args.parts.now in
    after_round (view c.args.job.now) c.run_round.new.parts (record {
      before = before;
      owners = round.owners;
      least_bad = round.least_bad;
      as_many = c.run_round.auto.parts;
      empty = λ k d lt. (c.requires.empty k d lt).1;
      round = subst
          (λ n. IsRound (StandsFor (view c.args.job.now)) (plan n (length before)) round.owners round.least_bad before c.run_round.new.parts)
          c.blocks-2.ensures.blocks c.in_ok-run_round.ensures.worked;
      ready = c.run_round.ensures.ready;
    })
