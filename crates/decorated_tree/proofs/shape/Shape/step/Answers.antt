-- The marks, the degrees and the colours go on in this order, like the digits of a counter. Each answer says that the
-- tree has the next number if one of them goes on after those before it went back to their first values, and that it
-- was the last with its edges if all went back.
use Rattle.std.proofs.Common.{◌≡◌, ℕ, ◌-◌, true, false, take, refl, ◌∙◌, subst, arith}
use Rattle.trees.specs.Decorated.{TreeShape, is_decorated}
use Rattle.decorated_tree.specs.declared.tree.Tree.{Tree}
use Rattle.decorated_tree.specs.Shapes.{within_limits}
use Rattle.decorated_tree.specs.Trees.{tree_view}
use Rattle.decorated_tree.specs.Following.{DegreesGoOn, ColoursGoOn}
use Rattle.decorated_tree.proofs.Counts.{limits}
use Rattle.decorated_tree.proofs.NextTree.{IsReady, is_ready, colours_ready, tree_after_marks, tree_after_degrees, tree_after_more, none_after}
use Rattle.decorated_tree.proofs.shape.Shape.step.Goals as goal

ready : (s : TreeShape) (t : Tree) (m : ℕ) → within_limits s ≡ true → is_decorated s (tree_view t) ≡ true
    → t.m ≡ s.marks → m ≡ s.marks → IsReady s t m
ready s t m within =
    let l = limits s.rank s.degree s.marks within in let small = l.most_degree in is_ready s t m (omega arith)

pub next_word-requires : goal.next_word-requires
next_word-requires c =
    (ready c.args.self.now c.args.tree.now c.m-m.result c.m-m.ensures.shape c.requires.decorated c.requires.marks c.m-m.ensures.value).marks

pub returns-then-next_word-clause-after : goal.returns-then-next_word-clause-after
returns-then-next_word-clause-after c =
    let l = limits c.args.self.now.rank c.args.self.now.degree c.args.self.now.marks c.m-m.ensures.shape in
    let small = l.most_degree in
    tree_after_marks c.args.self.now c.args.tree.now c.m-m.result
    (omega arith) c.requires.decorated c.requires.marks c.m-m.ensures.value c.requires.padded c.next_word.new.letters
    c.if-next_word.ensures

pub overflow_sub-count : goal.overflow_sub-count
overflow_sub-count c =
    let least =
    (ready c.args.self.now c.args.tree.now c.m-m.result c.m-m.ensures.shape c.requires.decorated c.requires.marks c.m-m.ensures.value).least in
    omega arith

pub slice_bounds-next_degrees-end : goal.slice_bounds-next_degrees-end
slice_bounds-next_degrees-end c =
    let most =
    (ready c.args.self.now c.args.tree.now c.m-m.result c.m-m.ensures.shape c.requires.decorated c.requires.marks c.m-m.ensures.value).most in
    omega arith

pub next_degrees-requires-clause-some : goal.next_degrees-requires-clause-some
next_degrees-requires-clause-some c =
    let r =
    ready c.args.self.now c.args.tree.now c.m-m.result c.m-m.ensures.shape c.requires.decorated c.requires.marks c.m-m.ensures.value in
    let least = r.least in
    let long = r.degrees.long in
    omega arith

pub next_degrees-requires-clause-positive : goal.next_degrees-requires-clause-positive
next_degrees-requires-clause-positive c =
    (ready c.args.self.now c.args.tree.now c.m-m.result c.m-m.ensures.shape c.requires.decorated c.requires.marks c.m-m.ensures.value).degrees.positive

pub next_degrees-requires-clause-small : goal.next_degrees-requires-clause-small
next_degrees-requires-clause-small c =
    (ready c.args.self.now c.args.tree.now c.m-m.result c.m-m.ensures.shape c.requires.decorated c.requires.marks c.m-m.ensures.value).small

pub returns-then-next_degrees-clause-after : goal.returns-then-next_degrees-clause-after
returns-then-next_degrees-clause-after c =
    let l = limits c.args.self.now.rank c.args.self.now.degree c.args.self.now.marks c.m-m.ensures.shape in
    let small = l.most_degree in
    let r =
    ready c.args.self.now c.args.tree.now c.m-m.result c.m-m.ensures.shape c.requires.decorated c.requires.marks c.m-m.ensures.value in
    tree_after_degrees c.args.self.now c.args.tree.now c.m-m.result
    (omega arith) c.requires.decorated c.requires.marks c.m-m.ensures.value c.requires.padded c.next_word.new.letters
    c.next_degrees.new.degrees c.if-next_word.ensures
    (subst (λ d. DegreesGoOn d (take (c.args.tree.now.n - 1) c.args.tree.now.degrees) c.next_degrees.new.degrees true) r.degrees.total c.if-next_degrees.ensures)

pub raise_last_colour-requires-clause-tree : goal.raise_last_colour-requires-clause-tree
raise_last_colour-requires-clause-tree c =
    let r =
    ready c.args.self.now c.args.tree.now c.m-m.result c.m-m.ensures.shape c.requires.decorated c.requires.marks c.m-m.ensures.value in
    (colours_ready c.args.self.now c.args.tree.now c.r-r.result c.as_slice-pairs.result.now _ r.colours c.r-r.ensures.value c.as_slice-pairs.ensures.value refl).tree

pub raise_last_colour-requires-clause-within : goal.raise_last_colour-requires-clause-within
raise_last_colour-requires-clause-within c =
    let r =
    ready c.args.self.now c.args.tree.now c.m-m.result c.m-m.ensures.shape c.requires.decorated c.requires.marks c.m-m.ensures.value in
    (colours_ready c.args.self.now c.args.tree.now c.r-r.result c.as_slice-pairs.result.now _ r.colours c.r-r.ensures.value c.as_slice-pairs.ensures.value refl).within

pub raise_last_colour-requires-clause-differ : goal.raise_last_colour-requires-clause-differ
raise_last_colour-requires-clause-differ c =
    let r =
    ready c.args.self.now c.args.tree.now c.m-m.result c.m-m.ensures.shape c.requires.decorated c.requires.marks c.m-m.ensures.value in
    (colours_ready c.args.self.now c.args.tree.now c.r-r.result c.as_slice-pairs.result.now _ r.colours c.r-r.ensures.value c.as_slice-pairs.ensures.value refl).differ

pub raise_last_colour-requires-clause-digits : goal.raise_last_colour-requires-clause-digits
raise_last_colour-requires-clause-digits c =
    let r =
    ready c.args.self.now c.args.tree.now c.m-m.result c.m-m.ensures.shape c.requires.decorated c.requires.marks c.m-m.ensures.value in
    (colours_ready c.args.self.now c.args.tree.now c.r-r.result c.as_slice-pairs.result.now _ r.colours c.r-r.ensures.value c.as_slice-pairs.ensures.value refl).digits

pub returns-then-raise_last_colour-clause-after : goal.returns-then-raise_last_colour-clause-after
returns-then-raise_last_colour-clause-after c =
    let l = limits c.args.self.now.rank c.args.self.now.degree c.args.self.now.marks c.m-m.ensures.shape in
    let small = l.most_degree in
    let r =
    ready c.args.self.now c.args.tree.now c.m-m.result c.m-m.ensures.shape c.requires.decorated c.requires.marks c.m-m.ensures.value in
    tree_after_more c.args.self.now c.args.tree.now c.m-m.result
    (omega arith) c.requires.decorated c.requires.marks c.m-m.ensures.value c.requires.padded true
    c.next_word.new.letters c.next_degrees.new.degrees c.raise_last_colour.new.colours c.r-r.result c.as_slice-pairs.result.now c.if-next_word.ensures
    (subst (λ d. DegreesGoOn d (take (c.args.tree.now.n - 1) c.args.tree.now.degrees) c.next_degrees.new.degrees false) r.degrees.total c.if-next_degrees.ensures)
    (c.raise_last_colour.auto.colours ∙ r.colours.long) c.r-r.ensures.value c.as_slice-pairs.ensures.value c.if-raise_last_colour.ensures.raised

pub next_colours-requires-clause-tree : goal.next_colours-requires-clause-tree
next_colours-requires-clause-tree c =
    let r =
    ready c.args.self.now c.args.tree.now c.m-m.result c.m-m.ensures.shape c.requires.decorated c.requires.marks c.m-m.ensures.value in
    (colours_ready c.args.self.now c.args.tree.now c.r-r.result c.as_slice-pairs.result.now _ r.colours c.r-r.ensures.value c.as_slice-pairs.ensures.value refl).tree

pub next_colours-requires-clause-digits : goal.next_colours-requires-clause-digits
next_colours-requires-clause-digits c =
    let r =
    ready c.args.self.now c.args.tree.now c.m-m.result c.m-m.ensures.shape c.requires.decorated c.requires.marks c.m-m.ensures.value in
    (colours_ready c.args.self.now c.args.tree.now c.r-r.result c.as_slice-pairs.result.now c.raise_last_colour.new.colours r.colours c.r-r.ensures.value c.as_slice-pairs.ensures.value
    c.if-raise_last_colour.ensures.kept).digits

pub returns-clause-after : goal.returns-clause-after
returns-clause-after c =
    let l = limits c.args.self.now.rank c.args.self.now.degree c.args.self.now.marks c.m-m.ensures.shape in
    let small = l.most_degree in
    let r =
    ready c.args.self.now c.args.tree.now c.m-m.result c.m-m.ensures.shape c.requires.decorated c.requires.marks c.m-m.ensures.value in
    tree_after_more c.args.self.now c.args.tree.now c.m-m.result
    (omega arith) c.requires.decorated c.requires.marks c.m-m.ensures.value c.requires.padded c.next_colours.result
    c.next_word.new.letters c.next_degrees.new.degrees c.next_colours.new.colours c.r-r.result c.as_slice-pairs.result.now c.if-next_word.ensures
    (subst (λ d. DegreesGoOn d (take (c.args.tree.now.n - 1) c.args.tree.now.degrees) c.next_degrees.new.degrees false) r.degrees.total c.if-next_degrees.ensures)
    (c.next_colours.auto.colours ∙ c.raise_last_colour.auto.colours ∙ r.colours.long) c.r-r.ensures.value c.as_slice-pairs.ensures.value
    (subst (λ z. ColoursGoOn c.args.tree.now.n c.r-r.result c.as_slice-pairs.result.now z c.next_colours.new.colours c.next_colours.result)
    c.if-raise_last_colour.ensures.kept c.next_colours.ensures)

pub returns-clause-last : goal.returns-clause-last
returns-clause-last c =
    let l = limits c.args.self.now.rank c.args.self.now.degree c.args.self.now.marks c.m-m.ensures.shape in
    let small = l.most_degree in
    let r =
    ready c.args.self.now c.args.tree.now c.m-m.result c.m-m.ensures.shape c.requires.decorated c.requires.marks c.m-m.ensures.value in
    none_after c.args.self.now c.args.tree.now c.m-m.result
    (omega arith) c.requires.decorated c.requires.marks c.m-m.ensures.value c.requires.padded c.next_colours.result
    c.next_word.new.letters c.next_degrees.new.degrees c.next_colours.new.colours c.r-r.result c.as_slice-pairs.result.now c.if-next_word.ensures
    (subst (λ d. DegreesGoOn d (take (c.args.tree.now.n - 1) c.args.tree.now.degrees) c.next_degrees.new.degrees false) r.degrees.total c.if-next_degrees.ensures)
    c.r-r.ensures.value c.as_slice-pairs.ensures.value
    (subst (λ z. ColoursGoOn c.args.tree.now.n c.r-r.result c.as_slice-pairs.result.now z c.next_colours.new.colours c.next_colours.result)
    c.if-raise_last_colour.ensures.kept c.next_colours.ensures)
