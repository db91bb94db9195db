use Rattle.std.proofs.Common.{refl, ◌++◌, ◌∙◌, ap}
use Rattle.std.proofs.lemmas.Result.{on_ok_weaker}
use Rattle.problem_toml.proofs.Texts.{front_shown}
use Rattle.problem_toml.proofs.refusal.append_key.Goals as goal

pub returns : goal.returns
returns c =
    let front = front_shown c.args.key.now _ c.min-length.result c.min-length.ensures refl in
    on_ok_weaker c.append_shown.result (λ h. h ∙ ap (λ w. c.args.line.now.items ++ w) front) c.append_shown.ensures
