use Rattle.std.proofs.Common.{◌∙◌, IsSome, subst}
use Rattle.problem_toml.proofs.GeneratedRules.{is_generated, generated_keeps}
use Rattle.problem_toml.proofs.ProblemLaws.{impossible}
use Rattle.problem_toml.proofs.generator.generated.Goals as goal

pub unreachable-requires : goal.unreachable-requires
unreachable-requires c =
    impossible (subst IsSome c.in-None.is
    (c.new.ensures.rules.1
    (generated_keeps c.args.number c.shape-shape.result c.setup-setup.result c.of-moduli.result c.of-integrals.result c.shape-shape.ensures c.setup-setup.ensures
    (c.of-moduli.ensures ∙ c.in_ok-moduli.ensures) (c.of-integrals.ensures ∙ c.in_ok-integrals.ensures))))

pub returns : goal.returns
returns c =
    c.in-Some.ensures.made
    ∙ is_generated c.args.number c.shape-shape.result c.setup-setup.result c.of-moduli.result c.of-integrals.result c.shape-shape.ensures c.setup-setup.ensures
    (c.of-moduli.ensures ∙ c.in_ok-moduli.ensures) (c.of-integrals.ensures ∙ c.in_ok-integrals.ensures)
