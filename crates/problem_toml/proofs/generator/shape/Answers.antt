use Rattle.problem_toml.proofs.GeneratedRules.{no_shape_error}
use Rattle.problem_toml.proofs.generator.shape.Goals as goal

pub unreachable-requires : goal.unreachable-requires
unreachable-requires c =
    no_shape_error c.in-Err.field-0 c.new.result c.args.degree c.in-Err.is c.requires.least c.requires.most c.new.ensures.out_of_limits c.new.ensures.too_many_trees
