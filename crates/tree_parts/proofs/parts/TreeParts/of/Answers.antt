-- A decorated tree of this rank has few vertices, edges within them with ends of different colours, and positive
-- degrees: this is what each call requires. The three arrays that are made are those of the tree (`made`).
use Rattle.std.proofs.Common.{arith}
use Rattle.tree_parts.proofs.Making.{limits, total_limited, colours_few, pairs_within, pairs_apart, degree_each, marks_below, shape_is, made}
use Rattle.tree_parts.proofs.parts.TreeParts.of.Goals as goal

pub shared_ref_as_front-colours : goal.shared_ref_as_front-colours
shared_ref_as_front-colours c = (limits c.args.rank c.args.tree.now c.requires).1

pub slice_bounds-degrees-count : goal.slice_bounds-degrees-count
slice_bounds-degrees-count c = (limits c.args.rank c.args.tree.now c.requires).0

pub shared_ref_as_front-degrees : goal.shared_ref_as_front-degrees
shared_ref_as_front-degrees c = let most = (limits c.args.rank c.args.tree.now c.requires).1 in omega (arith, most)

pub total-requires : goal.total-requires
total-requires c = total_limited c.args.rank c.args.tree.now c.requires

pub coloured_edges-requires-clause-within : goal.coloured_edges-requires-clause-within
coloured_edges-requires-clause-within c =
    pairs_within c.args.rank c.args.tree.now c.as_slice-pairs.result.now c.requires c.as_slice-pairs.ensures.value

pub coloured_edges-requires-clause-degrees : goal.coloured_edges-requires-clause-degrees
coloured_edges-requires-clause-degrees c =
    degree_each c.args.rank c.args.tree.now c.as_slice-pairs.result.now c.requires c.as_slice-pairs.ensures.value

pub ends_by_vertex-requires-clause-vertices : goal.ends_by_vertex-requires-clause-vertices
ends_by_vertex-requires-clause-vertices c = colours_few c.args.rank c.args.tree.now c.requires

pub ends_by_vertex-requires-clause-within : goal.ends_by_vertex-requires-clause-within
ends_by_vertex-requires-clause-within c =
    pairs_within c.args.rank c.args.tree.now c.as_slice-pairs.result.now c.requires c.as_slice-pairs.ensures.value

pub ends_by_vertex-requires-clause-apart : goal.ends_by_vertex-requires-clause-apart
ends_by_vertex-requires-clause-apart c =
    pairs_apart c.args.rank c.args.tree.now c.as_slice-pairs.result.now c.requires c.as_slice-pairs.ensures.value

pub ends_by_vertex-requires-clause-degrees : goal.ends_by_vertex-requires-clause-degrees
ends_by_vertex-requires-clause-degrees c =
    degree_each c.args.rank c.args.tree.now c.as_slice-pairs.result.now c.requires c.as_slice-pairs.ensures.value

pub marks_by_vertex-requires-clause-within : goal.marks_by_vertex-requires-clause-within
marks_by_vertex-requires-clause-within c = marks_below c.args.rank c.args.tree.now c.requires

pub invariant_of-result : goal.invariant_of-result
invariant_of-result c =
    made _ c.as_slice-pairs.result.now c.requires c.as_slice-pairs.ensures.value c.total.ensures c.coloured_edges.ensures.value c.coloured_edges.ensures.long
    c.ends_by_vertex.ensures.value c.ends_by_vertex.ensures.long c.marks_by_vertex.ensures.value c.marks_by_vertex.ensures.long

pub returns-clause-shape : goal.returns-clause-shape
returns-clause-shape c = shape_is c.args.rank c.total.result c.args.tree.now c.total.ensures
