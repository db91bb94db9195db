use Rattle.std.proofs.lemmas.List.{take-replicate}
use Rattle.worker_pool.proofs.shares.Shares.new.Goals as goal

pub returns : goal.returns
returns c = take-replicate c.args.workers 64 0 c.requires
