use Rattle.std.proofs.Common.{◌∙◌}
use Rattle.trees.specs.TreeNumbers.{bases}
use Rattle.decorated_tree.specs.Shapes.{shape_of}
use Rattle.decorated_tree.proofs.Counts.{some_trees}
use Rattle.decorated_tree.proofs.Refusals.{refused_by_size}
use Rattle.decorated_tree.proofs.bases.radix.Goals as goal

pub returns-clause-none : goal.returns-clause-none
returns-clause-none c =
    let is = c.as_slice.ensures.value ∙ c.bases.ensures in
    let e = c.new.ensures in
    let short = c.as_slice.ensures.limited in
    refused_by_size (bases (shape_of c.args.r c.args.d c.args.m) c.args.n) c.new.result c.ok.result c.ok.ensures.value
    (rw (← c.bases.ensures) short) (some_trees _ _ _ _ c.requires.some c.requires.least c.requires.most)
    (rw (← is) e.accepted) (rw (← is) e.too_many) (rw (← is) e.zero_base) (rw (← is) e.too_large)
