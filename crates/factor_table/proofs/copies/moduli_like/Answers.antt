use Rattle.std.proofs.Common.{below_more}
use Rattle.factor_table.proofs.InitialWords.{item_limited, item_copied}
use Rattle.factor_table.proofs.copies.moduli_like.Goals as goal

pub loop-index-preserved : goal.loop-index-preserved
loop-index-preserved c =
    let moduli = c.args.moduli.now in let i = c.loop-index.index in let inv = c.loop-index.invariant in record {
      copied = item_copied moduli _ _ i c.get.result.now c.modulus_like.result c.get.ensures c.modulus_like.ensures.copied inv.copied c.in_ok-push.ensures.items;
      limited = below_more _ _ inv.limited
          (item_limited moduli i c.get.result.now c.modulus_like.result c.get.ensures c.modulus_like.ensures.copied c.modulus_like.ensures.limited);
    }
