-- The loop keeps the residue of the sum over the terms so far, and the index of the next term's first class in the
-- table.
use Rattle.std.proofs.Common.{◌+◌, length, take, pos, sym, subst, arith}
use Rattle.std.proofs.lemmas.List.{take_all, length-map}
use Rattle.arithmetic.specs.Fractions.{IsResidue}
use Rattle.arithmetic.proofs.Residues.{IsResidue-whole}
use Rattle.classes.specs.declared.class.Power.{Power}
use Rattle.contribution.specs.Terms.{IsTermFor, sum_of_terms}
use Rattle.contribution.proofs.TermSums.{terms-more}
use Rattle.factor_table.specs.Seats.{parameters_of}
use Rattle.table_sum.specs.Classes.{classes_of_term, classes_of_terms, AreClassesFrom}
use Rattle.table_sum.proofs.Later.{later_same, later_after}
use Rattle.table_sum.proofs.Powers.{residue_times, residue_plus}
use Rattle.table_sum.proofs.ClassLaws.{of_item, item_within, length-next}
use Rattle.table_sum.proofs.terms.terms_residue.Goals as goal

pub vertices_residue-requires-clause-seat : goal.vertices_residue-requires-clause-seat
vertices_residue-requires-clause-seat c = c.loop-term.invariant.seat.seat

pub vertices_residue-requires-clause-exponents : goal.vertices_residue-requires-clause-exponents
vertices_residue-requires-clause-exponents c =
    (subst (IsTermFor c.args.parts.now.shape.marks) (sym c.term-item.is) (c.requires.terms c.loop-term.term-index c.term-item.result c.loop-term-test.true)).exponents

pub term_value-requires-clause-classes : goal.term_value-requires-clause-classes
term_value-requires-clause-classes c =
    (subst (IsTermFor c.args.parts.now.shape.marks) (sym c.term-item.is) (c.requires.terms c.loop-term.term-index c.term-item.result c.loop-term-test.true)).classes

pub term_value-requires-clause-indices : goal.term_value-requires-clause-indices
term_value-requires-clause-indices c =
    let classes = (parameters_of c.args.column.now.table.now).classes in
    let item =
    of_item classes_of_term classes c.args.first c.loop-term.term-index c.args.terms.now c.term-item.result c.requires.indices c.loop-term-test.true in
    subst (λ n. AreClassesFrom classes n (classes_of_term c.term-item.result)) (sym c.loop-term.invariant.index)
    (subst (λ t. AreClassesFrom classes (c.args.first + length (classes_of_terms (take c.loop-term.term-index c.args.terms.now))) (classes_of_term t)) (sym c.term-item.is) item)

pub loop-term-init : goal.loop-term-init
loop-term-init c = record {
  seat = later_same _ _ c.requires.seat;
  index = omega arith;
  value = IsResidue-whole (pos 0) c.of_u64-sum.ensures;
}

pub loop-term-preserved : goal.loop-term-preserved
loop-term-preserved c =
    let column = c.args.column.now in
    let ws = (parameters_of column.table.now).setup in
    let g = c.args.parts.now.tree in
    let ts = c.args.terms.now in
    let i = c.loop-term.term-index in
    let below = c.loop-term-test.true in
    let index = c.loop-term.invariant.index in
    let long = length-map c.term-item.result.classes (λ (q : Power). q.class) in
    let next =
    length-next classes_of_term ts i (length c.term-item.result.classes) c.term-item.result below c.term-item.is
    (sym long) in
    record {
      seat = later_after _ _ _ _ c.loop-term.invariant.seat
          (later_after _ _ _ _ c.vertices_residue.ensures.seat c.term_value.ensures.seat);
      index = let count = c.len.ensures in omega (arith, index, next, count);
      value = rw (terms-more ws g ts i c.term-item.result below c.term-item.is)
          (residue_plus column.above c.loop-term.invariant.value
          (residue_times column.above c.in_ok-vertices.ensures.value c.in_ok-value.ensures.value c.times-factor.ensures.value) c.add-sum.ensures.value);
    }

pub returns-clause-value : goal.returns-clause-value
returns-clause-value c =
    let column = c.args.column.now in
    let past = c.loop-term-test.false in
    subst
    (λ ts. IsResidue column.modulus.now (sum_of_terms (parameters_of column.table.now).setup c.args.parts.now.tree ts) c.loop-term.sum)
    (take_all c.loop-term.term-index c.args.terms.now (omega (arith, past))) c.loop-term.invariant.value

pub returns-in_err-value-clause-seat : goal.returns-in_err-value-clause-seat
returns-in_err-value-clause-seat c =
    later_after _ _ _ _ c.loop-term.invariant.seat
    (later_after _ _ _ _ c.vertices_residue.ensures.seat c.term_value.ensures.seat)

pub overflow_cast-index : goal.overflow_cast-index
overflow_cast-index c =
    let column = c.args.column.now in
    let few = column.few_classes in
    let count = c.len.ensures in
    let within =
    item_within
    (parameters_of column.table.now).classes c.args.first c.loop-term.term-index c.args.terms.now c.term-item.result c.requires.indices c.loop-term-test.true c.term-item.is in
    omega (arith, few, count, within)

pub overflow_add-index : goal.overflow_add-index
overflow_add-index c =
    let column = c.args.column.now in
    let few = column.few_classes in
    let count = c.len.ensures in
    let index = c.loop-term.invariant.index in
    let within =
    item_within
    (parameters_of column.table.now).classes c.args.first c.loop-term.term-index c.args.terms.now c.term-item.result c.requires.indices c.loop-term-test.true c.term-item.is in
    omega (arith, few, count, index, within)
