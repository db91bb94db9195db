use Rattle.std.proofs.Common.{Some, None, ap, sym, ◌∙◌}
use Rattle.problem_toml.specs.Tables.{none_unknown}
use Rattle.problem_toml.proofs.KeyLaws.{unknown_found}
use Rattle.problem_toml.proofs.table.check_known.Goals as goal

pub returns-in-None : goal.returns-in-None
returns-in-None c =
    let known =
    unknown_found None c.args.names.now c.args.table.now.entries (rw c.in-None.is at c.first_unknown_key.ensures) in
    rw (← known)

pub returns-in_ok-bytes-in-Some : goal.returns-in_ok-bytes-in-Some
returns-in_ok-bytes-in-Some c = λ _.
    let unknown =
    unknown_found (Some c.in-Some.key) c.args.names.now c.args.table.now.entries
    (rw c.in-Some.is at c.first_unknown_key.ensures) in
    ap (none_unknown c.args.place)
    (sym unknown ∙ ap Some (sym (c.in_ok-bytes-in-Some.ensures.value ∙ c.as_str.ensures.value)))
