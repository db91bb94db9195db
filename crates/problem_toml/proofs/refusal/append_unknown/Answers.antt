use Rattle.std.proofs.Common.{codes}
use Rattle.std.proofs.lemmas.Result.{on_ok_weaker}
use Rattle.problem_toml.specs.Refusals.{place_text, shown_key}
use Rattle.problem_toml.proofs.Texts.{joined_four}
use Rattle.problem_toml.proofs.refusal.append_unknown.Goals as goal

pub returns : goal.returns
returns c =
    on_ok_weaker c.append_key.result
    (λ h. joined_four c.args.line.now.items _ _ _ _ (codes "4 UnknownKey ") (place_text c.args.place) (codes " ") (shown_key c.args.key.now)
    c.in_ok-extend_from_slice.ensures.items c.in_ok-append_place.ensures c.in_ok-extend_from_slice-2.ensures.items h)
    c.append_key.ensures
