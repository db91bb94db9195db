-- After each leaf, the edges that are left can be taken apart leaf by leaf exactly if all edges can (`IsEncoding`); a
-- missing leaf shows that they are no tree.
use Rattle.std.proofs.Common.{◌≡◌, ◌+◌, ◌-◌, Bool, true, false, arith, refl, ap, ◌∙◌}
use Rattle.trees.specs.Edges.{is_tree}
use Rattle.trees.specs.Words.{degree_of}
use Rattle.prufer.proofs.Leaves.{first_one}
use Rattle.prufer.proofs.Trees.{edge_list, upward_and_below, below_more, pruned-tree, tree-pruned}
use Rattle.prufer.proofs.Encoding.{encoding_start, encoding_step, encoding_stuck, encoding_end}
use Rattle.prufer.proofs.code.word_of.Goals as goal

pub degrees_of_edges-degrees-requires-clause-within : goal.degrees_of_edges-degrees-requires-clause-within
degrees_of_edges-degrees-requires-clause-within c =
    rw c.as_slice.ensures.value (below_more c.args.n 11 c.args.edges c.requires.most
    (upward_and_below c.args.n c.args.edges (edge_list c.args.edges c.requires.form).upward c.requires.below))

pub loop-init : goal.loop-init
loop-init c =
    rw c.empty-word.ensures (encoding_start c.args.n c.args.edges (c.args.n - 2) c.degrees_of_edges-degrees.result c.requires.most c.requires.least refl
    (edge_list c.args.edges c.requires.form) c.requires.count c.requires.below c.degrees_of_edges-degrees.ensures.long
    (λ v h. c.degrees_of_edges-degrees.ensures.degrees v h ∙ ap (degree_of v) c.as_slice.ensures.value))

not_true : (b : Bool) → (b ≡ true → ⊥) → b ≡ false
not_true true h = absurd (h refl)
not_true false h = refl

pub returns-in_err-leaf-clause-none : goal.returns-in_err-leaf-clause-none
returns-in_err-leaf-clause-none c =
    rw c.from_residual.ensures (not_true (is_tree c.args.n c.args.edges)
    (λ t. encoding_stuck c.args.n c.args.edges _ (c.args.n - (c.loop.counter + 1)) _ _ c.loop.degrees (omega arith) c.loop.invariant c.in_err-leaf.ensures (pruned-tree c.args.n c.args.edges c.requires.least t)))

pub bounds-degrees-neighbour : goal.bounds-degrees-neighbour
bounds-degrees-neighbour c =
    let cut = encoding_step c.args.n c.args.edges _ (c.args.n - (c.loop.counter + 1)) _ _ c.loop.degrees c.in_ok-leaf.leaf c.requires.most (omega arith) c.loop.invariant (first_one c.loop.degrees c.in_ok-leaf.leaf c.in_ok-leaf.ensures) in
    rw c.neighbour-neighbour.ensures cut.neighbour_below

pub overflow_sub-degrees : goal.overflow_sub-degrees
overflow_sub-degrees c =
    let cut = encoding_step c.args.n c.args.edges _ (c.args.n - (c.loop.counter + 1)) _ _ c.loop.degrees c.in_ok-leaf.leaf c.requires.most (omega arith) c.loop.invariant (first_one c.loop.degrees c.in_ok-leaf.leaf c.in_ok-leaf.ensures) in
    rw c.neighbour-neighbour.ensures cut.some

pub bounds-degrees-neighbour-in-loop : goal.bounds-degrees-neighbour-in-loop
bounds-degrees-neighbour-in-loop c =
    let cut = encoding_step c.args.n c.args.edges _ (c.args.n - (c.loop.counter + 1)) _ _ c.loop.degrees c.in_ok-leaf.leaf c.requires.most (omega arith) c.loop.invariant (first_one c.loop.degrees c.in_ok-leaf.leaf c.in_ok-leaf.ensures) in
    rw c.neighbour-neighbour.ensures cut.neighbour_below

pub loop-preserved : goal.loop-preserved
loop-preserved c =
    let cut = encoding_step c.args.n c.args.edges _ (c.args.n - (c.loop.counter + 1)) _ _ c.loop.degrees c.in_ok-leaf.leaf c.requires.most (omega arith) c.loop.invariant (first_one c.loop.degrees c.in_ok-leaf.leaf c.in_ok-leaf.ensures) in
    rw (c.push.ensures, c.without_edge_at-left.ensures, c.neighbour-neighbour.ensures) cut.next

pub returns-clause-some : goal.returns-clause-some
returns-clause-some c =
    let end = encoding_end c.args.n c.args.edges _ _ _ c.loop.degrees (let e : c.args.n - c.loop.counter ≡ 0 = omega arith in e) c.loop.invariant in
    (tree-pruned c.args.n c.args.edges c.requires.least (edge_list c.args.edges c.requires.form) c.requires.below end.pruned, end.word_is)
