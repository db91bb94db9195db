use Rattle.std.proofs.Common.{codes, ◌++◌, ◌∙◌, ap, w64}
use Rattle.std.specs.Fmt.{signed_decimal}
use Rattle.std.proofs.lemmas.Int.{to_z-of_z}
use Rattle.problem_toml.proofs.Texts.{joined_two}
use Rattle.problem_toml.proofs.refusal.append_version.Goals as goal

pub returns : goal.returns
returns c =
    let digits =
    c.as_bytes.ensures.value ∙ c.format.ensures.text ∙ ap signed_decimal
    (to_z-of_z w64 c.args.version c.ranges.version) in
    joined_two c.args.line.now.items _ _ (codes "6 BadVersion ") (signed_decimal c.args.version)
    c.in_ok-extend_from_slice.ensures.items
    (c.in_ok-extend_from_slice-2.ensures.items ∙ ap (λ w. c.extend_from_slice.new.self.items ++ w) digits)
