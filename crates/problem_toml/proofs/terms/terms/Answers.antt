use Rattle.std.proofs.Common.{◌∙◌, ◌+◌, ap, arith}
use Rattle.toml.specs.Data.{as_table}
use Rattle.toml.specs.View.{view}
use Rattle.problem_toml.proofs.TermArrays.{terms_next, terms_other}
use Rattle.problem_toml.proofs.terms.terms.Goals.{in-Some+in_ok-term+in_ok-push, in_default}
use Rattle.problem_toml.proofs.terms.terms.Goals as goal

pub loop-value-preserved : goal.loop-value-preserved
loop-value-preserved c =
    elim c.match-as_table.branch [
      | in-Some+in_ok-term+in_ok-push w ↦ rw (w.terms-is, w.in_ok-push.ensures.items)
          (terms_next c.args.version c.args.marks c.args.first c.args.values.now c.loop-value.value-index (c.args.first + w.len.result) c.loop-value.terms.items w.in_ok-term.term c.value-item.result _ c.loop-value-test.true
          (w.in-Some.ensures ∙ ap (λ v. as_table (view v)) c.value-item.is)
          (omega (arith, w.len.ensures, c.loop-value.terms.ok)) w.in_ok-term.ensures.read w.in_ok-term.ensures.limits c.loop-value.invariant)
      | in_default w ↦ rw w.terms-is
          (terms_other c.args.version c.args.marks c.args.first c.args.values.now c.loop-value.value-index c.loop-value.terms.items c.value-item.result c.loop-value-test.true
          (w.in_default.ensures ∙ ap (λ v. as_table (view v)) c.value-item.is) c.loop-value.invariant)
    ]
