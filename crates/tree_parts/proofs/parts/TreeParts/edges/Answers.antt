use Rattle.std.proofs.Common.{arith}
use Rattle.tree_parts.proofs.Shaped.{sound, vertices_most, shaped_edges}
use Rattle.tree_parts.proofs.parts.TreeParts.edges.Goals as goal

pub slice_bounds-result-count : goal.slice_bounds-result-count
slice_bounds-result-count c = let least = (sound c.self.inside c.self.invariant).least in omega (arith, least)

pub shared_ref_as_front-result : goal.shared_ref_as_front-result
shared_ref_as_front-result c = let most = vertices_most c.self.inside c.self.invariant in omega (arith, most)

pub returns-clause-each : goal.returns-clause-each
returns-clause-each c = shaped_edges c.self.inside c.args.self.now c.self.invariant c.self.view_is
