use Rattle.std.proofs.Common.{◌∙◌, ◌++◌, ◌∷◌, [], slice_index, get_or, ap, sym, arith}
use Rattle.std.proofs.lemmas.List.{length-set, take_more_set}
use Rattle.tree_parts.specs.Edges.{coloured_edge}
use Rattle.tree_parts.proofs.Edgewise.{along_edges-more}
use Rattle.tree_parts.proofs.edges.coloured_edges.Goals as goal

pub loop-place-preserved : goal.loop-place-preserved
loop-place-preserved c =
    let i = c.loop-place.place in
    let before = c.loop-place.invariant in
    let few = c.requires.few in
    let test = c.loop-place-test.true in
    let long = before.long in
    let e = get_or c.args.pairs.now i (0, 0) in
    let edge =
    coloured_edge (slice_index c.args.colours.now e.0) (slice_index c.args.colours.now e.1)
    (get_or c.args.degrees.now i 0) in
    record {
      long = length-set c.loop-place.edges i edge ∙ long;
      so_far =
          take_more_set c.loop-place.edges i edge (omega (arith, few, test, long))
          ∙ ap (λ xs. xs ++ edge ∷ []) before.so_far
          ∙ sym (along_edges-more coloured_edge c.args.colours.now c.args.pairs.now c.args.degrees.now i test c.requires.degrees);
    }
