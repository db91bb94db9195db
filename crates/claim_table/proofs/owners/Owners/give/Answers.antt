use Rattle.std.proofs.Common.{arith, ap, ◌∙◌, length, get_or}
use Rattle.std.proofs.lemmas.List.{length-set}
use Rattle.claim_table.proofs.Lists.{stands}
use Rattle.claim_table.proofs.Legal.{give_more}
use Rattle.claim_table.proofs.owners.Owners.give.Goals as goal

pub set-requires : goal.set-requires
set-requires c = omega (
  arith,
  c.requires _
      (stands c.args.taken.now c.loop-block.block-index c.loop-block-test.true),
  c.loop-block.invariant.len,
)

pub loop-block-preserved : goal.loop-block-preserved
loop-block-preserved c = let a = c.requires _
    (stands c.args.taken.now c.loop-block.block-index c.loop-block-test.true) in
    let n = c.loop-block.invariant.len in record {
      len = ap length c.set.ensures ∙ length-set c.loop-block.self _ _ ∙ n;
      owners = λ b lt. ap (λ l. get_or l b 0) c.set.ensures
          ∙ give_more b c.args.worker (get_or c.args.self.now b 0) c.loop-block.self c.args.taken.now
          c.loop-block.block-index c.loop-block-test.true (omega arith) (c.loop-block.invariant.owners b lt);
    }
