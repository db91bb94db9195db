use Rattle.std.proofs.lemmas.Result.{err_from_is_err_and}
use Rattle.shard_merge.proofs.Refused.{one_cause, not_both}
use Rattle.shard_merge.proofs.Truth.{true_merge}
use Rattle.shard_merge.proofs.merging.merge.Goals as goal

pub returns-in_err-first-clause-only_merged : goal.returns-in_err-first-clause-only_merged
returns-in_err-first-clause-only_merged c first end merge =
    absurd (not_both c.args.shards.now first end _ merge c.in_err-first.ensures.refusal)

pub returns-in_err-first-clause-only_refusal : goal.returns-in_err-first-clause-only_refusal
returns-in_err-first-clause-only_refusal c error refused =
    let r = err_from_is_err_and c.from_residual.result c.from_residual.ensures.1 in
    rw (r.1, r.2) (λ _. one_cause c.args.shards.now _ error c.in_err-first.ensures.refusal refused)

pub returns-clause-only_refusal : goal.returns-clause-only_refusal
returns-clause-only_refusal c error refused =
    not_both c.args.shards.now c.in_ok-first.first c.in_ok-first.end error c.in_ok-first.ensures.tiles refused

pub returns-clause-is_true : goal.returns-clause-is_true
returns-clause-is_true c trues =
    true_merge c.args.shards.now c.in_ok-union.field-0 c.in_ok-first.ensures.shards c.in_ok-union.ensures trues
