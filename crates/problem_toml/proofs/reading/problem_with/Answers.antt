use Rattle.std.proofs.Common.{IsSome, subst}
use Rattle.problem_toml.proofs.ProblemLaws.{impossible, keeps_rules}
use Rattle.problem_toml.proofs.reading.problem_with.Goals as goal

pub unreachable-requires : goal.unreachable-requires
unreachable-requires c =
    impossible (subst IsSome c.in-None.is
    (c.new.ensures.rules.1
    (keeps_rules c.args.header.now c.in_ok-shape.shape c.in_ok-setup.setup c.of-moduli.result c.in_ok-moduli.moduli.items c.of-integrals.result c.in_ok-integrals.integrals.items c.as_slice-2.result.now
    c.requires.header c.in_ok-shape.ensures.shape c.in_ok-shape.ensures.few c.in_ok-setup.ensures.count c.in_ok-setup.ensures.weights
    c.of-moduli.ensures c.in_ok-moduli.ensures.limits c.in_ok-moduli.ensures.bounds
    c.of-integrals.ensures c.as_slice-2.ensures.value c.in_ok-integrals.ensures.some c.in_ok-integrals.ensures.few c.in_ok-integrals.ensures.limits c.in_ok-integrals.ensures.least_terms c.in_ok-integrals.ensures.most_terms
    c.in_ok-check_all_degrees.ensures)))
