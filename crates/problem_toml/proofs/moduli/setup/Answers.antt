use Rattle.problem_toml.proofs.ProblemLaws.{no_cause}
use Rattle.problem_toml.proofs.moduli.setup.Goals as goal

pub unreachable-requires : goal.unreachable-requires
unreachable-requires c =
    no_cause c.in-Err.field-0 c.new.result c.args.weights.now c.args.rank c.in-Err.is c.in_ok-check.ensures.holds c.requires.least_rank c.requires.most_rank c.requires.limits c.new.ensures.count c.new.ensures.weight
