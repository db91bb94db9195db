use Rattle.std.proofs.Common.{length, sym, arith}
use Rattle.std.proofs.lemmas.List.{length-map}
use Rattle.classes.specs.declared.class.Power.{Power}
use Rattle.table_sum.specs.Classes.{classes_of_term}
use Rattle.table_sum.proofs.ClassLaws.{item_counted, length-next}
use Rattle.table_sum.proofs.sum.class_count.Goals as goal

pub overflow_cast-count : goal.overflow_cast-count
overflow_cast-count c =
    let count = c.len.ensures in
    let most = c.requires in
    let own =
    item_counted c.args.terms.now c.loop-term.term-index c.term-item.result c.loop-term-test.true c.term-item.is in
    omega (arith, count, most, own)

pub overflow_add-count : goal.overflow_add-count
overflow_add-count c =
    let count = c.len.ensures in
    let most = c.requires in
    let before = c.loop-term.invariant in
    let own =
    item_counted c.args.terms.now c.loop-term.term-index c.term-item.result c.loop-term-test.true c.term-item.is in
    omega (arith, count, most, before, own)

pub loop-term-preserved : goal.loop-term-preserved
loop-term-preserved c =
    let count = c.len.ensures in
    let before = c.loop-term.invariant in
    let long = length-map c.term-item.result.classes (λ (q : Power). q.class) in
    let next =
    length-next classes_of_term c.args.terms.now c.loop-term.term-index
    (length c.term-item.result.classes) c.term-item.result c.loop-term-test.true c.term-item.is (sym long) in
    omega (arith, count, before, next)
