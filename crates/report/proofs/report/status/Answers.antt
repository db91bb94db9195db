use Rattle.std.proofs.Common.{◌≡◌, ℕ, Bool, is_some, sym, ap, ◌∙◌, rules, tests, if◌then◌else◌}
use Rattle.std.specs.List.{list_all}
use Rattle.std.proofs.lemmas.Iterator.{YieldsList-from_slice}
use Rattle.std.proofs.lemmas.Iterator.Search.{all_from_yields_List}
use Rattle.report.proofs.report.status.Goals as goal

abbrev status_by : Bool → ℕ
status_by all = if all then 0 else 1

pub returns-then-all : goal.returns-then-all
returns-then-all c =
    let e : c.all.result ≡ list_all is_some c.args.fractions.now =
    all_from_yields_List is_some _ _ _ c.all.ensures.ran (YieldsList-from_slice c.args.fractions.now cc)
    (λ x b q k. search (rules, tests)) in
    ap status_by (sym c.if-all.true ∙ e)

pub returns-else-all : goal.returns-else-all
returns-else-all c =
    let e : c.all.result ≡ list_all is_some c.args.fractions.now =
    all_from_yields_List is_some _ _ _ c.all.ensures.ran (YieldsList-from_slice c.args.fractions.now cc)
    (λ x b q k. search (rules, tests)) in
    ap status_by (sym c.if-all.false ∙ e)
