use Rattle.std.proofs.Common.{◌∙◌, ap, arith}
use Rattle.toml.specs.Data.{as_table}
use Rattle.toml.specs.View.{view}
use Rattle.problem_toml.proofs.IntegralArrays.{integrals_next, integrals_other}
use Rattle.problem_toml.proofs.integrals.listed_integrals.Goals.{in-Some+in_ok-terms+in_ok-push, in_default}
use Rattle.problem_toml.proofs.integrals.listed_integrals.Goals as goal

pub loop-value-preserved : goal.loop-value-preserved
loop-value-preserved c =
    elim c.match-as_table.branch [
      | in-Some+in_ok-terms+in_ok-push w ↦ rw (w.integrals-is, w.before-is, w.in_ok-push.ensures.items, w.of.ensures)
          (integrals_next c.args.marks c.args.values.now c.loop-value.value-index w.len-place.result c.loop-value.before _ c.loop-value.integrals.items w.in_ok-terms.terms.items c.value-item.result _ c.loop-value-test.true
          (w.in-Some.ensures ∙ ap (λ v. as_table (view v)) c.value-item.is)
          (omega (arith, w.len-place.ensures, c.loop-value.integrals.ok)) w.in_ok-terms.ensures.read w.in_ok-terms.ensures.limits w.in_ok-terms.ensures.least w.in_ok-terms.ensures.most
          (omega (arith, w.len.ensures, w.in_ok-terms.terms.ok)) c.loop-value.invariant)
      | in_default w ↦ rw (w.integrals-is, w.before-is)
          (integrals_other c.args.marks c.args.values.now c.loop-value.value-index c.loop-value.before c.loop-value.integrals.items c.value-item.result c.loop-value-test.true
          (w.in_default.ensures ∙ ap (λ v. as_table (view v)) c.value-item.is) c.loop-value.invariant)
    ]
