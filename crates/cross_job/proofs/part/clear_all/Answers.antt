use Rattle.std.proofs.Common.{◌∙◌, arith, length-set}
use Rattle.std.proofs.Math.Seq.{map-set_same}
use Rattle.sum_job.specs.declared.part.PartSum.{PartSum}
use Rattle.cross_job.proofs.PartLists.{fresh_more}
use Rattle.cross_job.proofs.part.clear_all.Goals as goal

pub loop-part-preserved : goal.loop-part-preserved
loop-part-preserved c = record {
  size = length-set c.loop-part.parts c.loop-part.part-index _ ∙ c.loop-part.invariant.size;
  seats = map-set_same (λ (p : PartSum). p.seat) c.loop-part.parts c.loop-part.part-index c.clear.new.self _ c.clear.ensures.seat
      ∙ c.loop-part.invariant.seats;
  fresh = fresh_more c.loop-part.parts c.loop-part.part-index c.clear.new.self (let same = c.loop-part.invariant.size in let within = c.loop-part-test.true in omega arith)
      c.loop-part.invariant.fresh c.clear.ensures.sums c.clear.ensures.least;
}
