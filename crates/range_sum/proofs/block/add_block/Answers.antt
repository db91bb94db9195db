use Rattle.std.proofs.Common.{refl, ℕ, ◌+◌, ◌*◌, ◌%◌, ◌<◌, ◌∙◌, sym, ap, ap₂, subst, length, slice_index, arith, length-set, Err, Ok}
use Rattle.arithmetic.specs.Fractions.{Fraction}
use Rattle.localisation.specs.Contribution.{partial_sum}
use Rattle.localisation.specs.Agreement.{modulus_at, integral_at}
use Rattle.range_sum.specs.Totals.{ratio_at, AddsResidue}
use Rattle.range_sum.proofs.BadTrees.{lacks_at}
use Rattle.range_sum.proofs.SumIndices.{added_next, rest_next, within_64, modulus_there, answer_there}
use Rattle.range_sum.proofs.BlockLaws.{some_in_block, none_in_block}
use Rattle.range_sum.proofs.block.add_block.Goals as goal

pub returns-in-Err-clause-added : goal.returns-in-Err-clause-added
returns-in-Err-clause-added c none q h =
    let p = c.args.problem.now in
    let place = c.loop-place.place in
    let order = c.requires.order in
    let within : place < length p.integrals * length p.moduli =
    subst (λ n. place < n) (ap₂ (λ a b. a * b) c.len.ensures c.len-moduli.ensures) c.loop-place-test.true in
    let sum = partial_sum p.setup p.shape c.args.start c.args.stop (integral_at p.moduli p.integrals place) in
    absurd (some_in_block p c.args.start c.args.stop place (omega arith) within
    (lacks_at (modulus_at p.moduli place) sum (Err c.in-Err.field-0)
    (answer_there p.moduli c.len-moduli.result place c.get-modulus.result.now (ratio_at c.block_ratios-ratios.result place) (Err c.in-Err.field-0)
    c.len-moduli.ensures c.get-modulus.ensures c.in-Err.ensures sum
    (c.block_ratios-ratios.ensures.each place within)) refl)
    (c.least_bad.ensures.none none))

pub loop-place-preserved : goal.loop-place-preserved
loop-place-preserved c =
    let p = c.args.problem.now in
    let place = c.loop-place.place in
    let x = c.in-Ok.x in
    let within : place < length p.integrals * length p.moduli =
    subst (λ n. place < n) (ap₂ (λ a b. a * b) c.len.ensures c.len-moduli.ensures) c.loop-place-test.true in
    let sum_at : ℕ → Fraction =
    λ q. partial_sum p.setup p.shape c.args.start c.args.stop (integral_at p.moduli p.integrals q) in
    record {
      size = length-set c.loop-place.sums place _ ∙ c.loop-place.invariant.size;
      added =
          added_next
          (λ q. AddsResidue (modulus_at p.moduli q) (sum_at q)) c.loop-place.sums c.args.sums.now 0 c.add.result place
          (let size = c.loop-place.invariant.size in let small = within_64 p place within in omega arith)
          c.loop-place.invariant.added (c.loop-place.invariant.rest place (omega arith))
          (record {
            value = x;
            is_residue =
                (answer_there p.moduli c.len-moduli.result place c.get-modulus.result.now (ratio_at c.block_ratios-ratios.result place) (Ok x)
                c.len-moduli.ensures c.get-modulus.ensures c.in-Ok.ensures (sum_at place) (c.block_ratios-ratios.ensures.each place within)).value;
            sum = c.add.ensures.value ∙ ap (λ m. (slice_index c.loop-place.sums place + x) % m)
                (sym (modulus_there p.moduli c.len-moduli.result place _ c.len-moduli.ensures c.get-modulus.ensures));
          });
      rest = rest_next c.loop-place.sums c.args.sums.now 0 c.add.result place c.loop-place.invariant.rest;
    }

pub returns-clause-none : goal.returns-clause-none
returns-clause-none c e =
    let p = c.args.problem.now in
    none_in_block p c.args.start c.args.stop
    (λ place h. (let l : place < c.len.result * c.len-moduli.result = subst (λ n. place < n) (sym (ap₂ (λ a b. a * b) c.len.ensures c.len-moduli.ensures)) h in
    (c.loop-place.invariant.added place (omega arith)).is_residue.unit))
