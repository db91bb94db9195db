use Rattle.std.proofs.Common.{codes, decimal, ◌++◌, ◌∙◌, ap}
use Rattle.problem_toml.specs.Refusals.{modulus_text}
use Rattle.problem_toml.proofs.Texts.{joined_four}
use Rattle.problem_toml.proofs.refusal.append_modulus.Goals as goal

pub returns : goal.returns
returns c =
    joined_four c.args.line.now.items _ _ _ _ (codes "9 ModulusRefused ") (decimal c.args.index) (codes " ")
    (modulus_text c.args.why)
    c.in_ok-extend_from_slice.ensures.items c.in_ok-append_number.ensures c.in_ok-extend_from_slice-2.ensures.items
    (c.in_ok-extend_from_slice-3.ensures.items ∙ ap (λ w. c.extend_from_slice-2.new.self.items ++ w) c.modulus_word.ensures)
