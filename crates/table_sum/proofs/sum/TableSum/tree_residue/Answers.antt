use Rattle.std.proofs.Common.{◌≡◌, ◌≤◌, length, sym, ap, subst, ◌∙◌, arith}
use Rattle.std.proofs.lemmas.Option.{get_or_from_slice_get}
use Rattle.table_sum.specs.Classes.{classes_of_terms}
use Rattle.table_sum.proofs.ClassLaws.{length-next}
use Rattle.table_sum.proofs.ProblemLaws.{count_within}
use Rattle.table_sum.proofs.sum.TableSum.tree_residue.Goals as goal

pub class_count-first-requires : goal.class_count-first-requires
class_count-first-requires c =
    let p = c.args.self.now.problem.now in
    let test = c.loop-earlier-test.true in
    let within = c.requires.integral in
    let own = count_within p c.loop-earlier.earlier c.get.result.now (omega (arith, test, within)) c.get.ensures in
    subst (λ ts. length (classes_of_terms ts) ≤ 512) (sym c.as_slice.ensures) (omega (arith, own))

pub overflow_add-first : goal.overflow_add-first
overflow_add-first c =
    let p = c.args.self.now.problem.now in
    let test = c.loop-earlier-test.true in
    let within = c.requires.integral in
    let own = count_within p c.loop-earlier.earlier c.get.result.now (omega (arith, test, within)) c.get.ensures in
    let same : length (classes_of_terms c.as_slice.result.now) ≡ length (classes_of_terms c.get.result.now) =
    ap (λ ts. length (classes_of_terms ts)) c.as_slice.ensures in
    let count = c.class_count-first.ensures in
    let before = c.loop-earlier.invariant in
    omega (arith, own, same, count, before)

pub loop-earlier-preserved : goal.loop-earlier-preserved
loop-earlier-preserved c =
    let p = c.args.self.now.problem.now in
    let i = c.loop-earlier.earlier in
    let terms = c.get.result.now in
    let test = c.loop-earlier-test.true in
    let within = c.requires.integral in
    let same : length (classes_of_terms c.as_slice.result.now) ≡ length (classes_of_terms terms) =
    ap (λ ts. length (classes_of_terms ts)) c.as_slice.ensures in
    let next = length-next classes_of_terms p.integrals i c.class_count-first.result terms (omega (arith, test, within))
    (sym (get_or_from_slice_get p.integrals i terms terms c.get.ensures)) (c.class_count-first.ensures ∙ same) in
    let before = c.loop-earlier.invariant in
    omega (arith, before, next)
