-- The loop keeps the residues of the product and of the sum of the flags so far.
use Rattle.std.proofs.Common.{pos, get_or, refl, subst, arith}
use Rattle.std.proofs.lemmas.List.{take_all}
use Rattle.arithmetic.specs.Fractions.{IsResidue}
use Rattle.arithmetic.proofs.Residues.{IsResidue-whole}
use Rattle.vertex_factor.specs.Ends.{ends_of}
use Rattle.factor_table.specs.Seats.{parameters_of}
use Rattle.table_sum.specs.Ends.{product_of_flags, sum_of_flags}
use Rattle.table_sum.proofs.Later.{later_same, later_after}
use Rattle.table_sum.proofs.Powers.{residue_times, residue_plus}
use Rattle.table_sum.proofs.FlagLaws.{product-more, sum-more}
use Rattle.table_sum.proofs.flags.flags_over.Goals as goal

pub loop-colour-init : goal.loop-colour-init
loop-colour-init c = record {
  seat = later_same _ _ c.requires.seat;
  product = IsResidue-whole (pos 1) c.of_u64.ensures;
  sum = IsResidue-whole (pos 0) c.of_u64-2.ensures;
}

pub flag-requires-clause-seat : goal.flag-requires-clause-seat
flag-requires-clause-seat c = c.loop-colour.invariant.seat.seat

pub loop-colour-preserved : goal.loop-colour-preserved
loop-colour-preserved c =
    let column = c.args.column.now in
    let ws = (parameters_of column.table.now).setup in
    let ps = c.args.ends.now in
    let i = c.loop-colour.colour-index in
    record {
      seat = later_after _ _ _ _ c.loop-colour.invariant.seat c.flag.ensures.seat;
      product = rw (product-more ws c.args.c ps i (get_or ps i (0, 0)).0 (get_or ps i (0, 0)).1 (omega arith) refl refl)
          (residue_times column.above c.loop-colour.invariant.product c.in_ok-flag.ensures.value c.times.ensures.value);
      sum = rw (sum-more ws c.args.c ps i (get_or ps i (0, 0)).0 (get_or ps i (0, 0)).1 (omega arith) refl refl)
          (residue_plus column.above c.loop-colour.invariant.sum c.in_ok-flag.ensures.value c.add.ensures.value);
    }

pub returns-clause-product : goal.returns-clause-product
returns-clause-product c =
    let column = c.args.column.now in
    let ws = (parameters_of column.table.now).setup in
    subst (λ ps. IsResidue column.modulus.now (product_of_flags ws c.args.c (ends_of ps)) c.loop-colour.flags.product)
    (take_all c.loop-colour.colour-index c.args.ends.now (omega arith)) c.loop-colour.invariant.product

pub returns-clause-sum : goal.returns-clause-sum
returns-clause-sum c =
    let column = c.args.column.now in
    let ws = (parameters_of column.table.now).setup in
    subst (λ ps. IsResidue column.modulus.now (sum_of_flags ws c.args.c (ends_of ps)) c.loop-colour.flags.sum)
    (take_all c.loop-colour.colour-index c.args.ends.now (omega arith)) c.loop-colour.invariant.sum
