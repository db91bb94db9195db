use Rattle.std.proofs.Common.{◌<◌, ◌∙◌, length, arith, length-set}
use Rattle.decorated_tree.specs.Trees.{tree_view}
use Rattle.localisation.specs.Contribution.{contribution}
use Rattle.localisation.specs.Agreement.{modulus_at, integral_at}
use Rattle.range_sum.specs.Totals.{ratio_at, AddsFraction}
use Rattle.range_sum.proofs.SumIndices.{added_next, rest_next, below_there, ratio_below, adds_there, place_below, within_64}
use Rattle.range_sum.proofs.block.add_tree.Goals as goal

pub plus-requires : goal.plus-requires
plus-requires c =
    let p = c.args.problem.now in
    let place = c.loop-modulus.place in
    let old = below_there p c.loop-integral.integral c.loop-modulus.modulus place c.get.result.now c.loop-modulus.ratios c.args.ratios.now c.loop-modulus.invariant.place
    (let end = c.len-integral-end.ensures in let test = c.loop-integral-test.true in omega arith)
    (let end = c.len-modulus-end.ensures in let test = c.loop-modulus-test.true in omega arith)
    c.get.ensures c.requires.below (c.loop-modulus.invariant.rest place (omega arith)) in
    let added =
    ratio_below p.moduli c.loop-modulus.modulus c.get.result.now _ c.tree_ratio-ratio.result c.get.ensures c.tree_ratio-ratio.ensures in
    record { top_below = old.top; bottom_below = old.bottom; other_top_below = added.top; other_bottom_below = added.bottom }

pub loop-modulus-preserved : goal.loop-modulus-preserved
loop-modulus-preserved c =
    let p = c.args.problem.now in
    let place = c.loop-modulus.place in
    let at_place = c.loop-modulus.invariant.place in
    let size = c.loop-modulus.invariant.size in
    let below : c.loop-modulus.modulus < length p.moduli =
    (let end = c.len-modulus-end.ensures in let test = c.loop-modulus-test.true in omega arith) in
    let within : c.loop-integral.integral < length p.integrals =
    (let end = c.len-integral-end.ensures in let test = c.loop-integral-test.true in omega arith) in
    let small =
    within_64 p place
    (place_below (length p.integrals) (length p.moduli) c.loop-integral.integral c.loop-modulus.modulus place at_place within below) in
    record {
      place = omega arith;
      size = length-set c.loop-modulus.ratios place _ ∙ size;
      added =
          added_next
          (λ q. AddsFraction (modulus_at p.moduli q) (contribution p.setup (integral_at p.moduli p.integrals q) (tree_view c.args.tree.now)))
          c.loop-modulus.ratios c.args.ratios.now (record { top = 0; bottom = 0 }) c.plus.result place (omega arith)
          c.loop-modulus.invariant.added (c.loop-modulus.invariant.rest place (omega arith))
          (adds_there p.setup p.integrals p.moduli _ (tree_view c.args.tree.now) c.loop-integral.integral c.loop-modulus.modulus place c.get.result.now
          (ratio_at c.loop-modulus.ratios place) c.tree_ratio-ratio.result c.plus.result at_place below c.get.ensures c.parts_of-parts.ensures.tree
          c.tree_ratio-ratio.ensures c.plus.ensures);
      rest = rest_next c.loop-modulus.ratios c.args.ratios.now
          (record { top = 0; bottom = 0 }) c.plus.result place c.loop-modulus.invariant.rest;
    }
