use Rattle.table_sum.specs.Sums.{problem_of}
use Rattle.list_job.proofs.Rounds.{after_round}
use Rattle.list_job.proofs.Sums.{entries_sum}
use Rattle.list_job.proofs.job.ListJob.new.Goals as goal

pub returns-clause-once : goal.returns-clause-once
returns-clause-once c = λ parts after. after_round _ parts after

pub returns-clause-sums : goal.returns-clause-sums
returns-clause-sums c = λ entries are.
    entries_sum _ c.args.first c.args.end entries (problem_of c.args.sum.now).rules are
