-- The digits are cut into letters, colours, the rank of the degrees and marks, each within its bases (`digit_facts`);
-- the arrays that are filled from them are those of the tree of the digits (`filled_tree`).
use Rattle.std.proofs.Common.{◌≡◌, ℕ, ◌+◌, ◌-◌, ◌*◌, ◌<◌, ◌≤◌, List, ap, sym, ◌∙◌, length, subst, take, drop, get_or, arith}
use Rattle.std.proofs.lemmas.List.Elements.{All-weaker, All-same}
use Rattle.trees.specs.Numbering.{choose}
use Rattle.decorated_tree.proofs.Counts.{limits}
use Rattle.decorated_tree.proofs.Unranking.{digit_facts, filled_tree}
use Rattle.decorated_tree.proofs.shape.Shape.tree_by.Goals as goal

pub split_at-requires : goal.split_at-requires
split_at-requires c =
    (digit_facts c.args.self.now c.args.n c.args.digits.now c.requires.least c.requires.digits).words_within

pub split_at-requires-2 : goal.split_at-requires-2
split_at-requires-2 c =
    subst (λ (l : List ℕ). c.args.n ≤ length l) (sym c.split_at.ensures.back)
    (digit_facts c.args.self.now c.args.n c.args.digits.now c.requires.least c.requires.digits).colours_within

pub unreachable-requires : goal.unreachable-requires
unreachable-requires c =
    let some = (digit_facts c.args.self.now c.args.n c.args.digits.now c.requires.least c.requires.digits).some in
    let last = ap length (c.split_at-2.ensures.back ∙ ap (drop c.args.n) c.split_at.ensures.back) in
    let short = c.in_default.len_below in
    omega arith

pub edges_by-edges-requires-clause-most : goal.edges_by-edges-requires-clause-most
edges_by-edges-requires-clause-most c =
    let l = limits c.args.self.now.rank c.args.self.now.degree c.args.self.now.marks c.d-d.ensures.shape in
    let most = l.most_degree in let m = c.requires.most in omega arith

pub edges_by-edges-requires-clause-within : goal.edges_by-edges-requires-clause-within
edges_by-edges-requires-clause-within c =
    All-same (λ x. x < c.args.n) c.split_at.result.0.now _ c.split_at.ensures.front
    (digit_facts c.args.self.now c.args.n c.args.digits.now c.requires.least c.requires.digits).letters

pub colours_by-requires-clause-small : goal.colours_by-requires-clause-small
colours_by-requires-clause-small c =
    let l = limits c.args.self.now.rank c.args.self.now.degree c.args.self.now.marks c.d-d.ensures.shape in
    let most = l.most_rank in
    All-same (λ x. x < 255) c.split_at-2.result.0.now _
    (c.split_at-2.ensures.front ∙ ap (take c.args.n) c.split_at.ensures.back)
    (All-weaker (λ x. x < c.args.self.now.rank + 1) (λ x. x < 255) (λ x h. omega arith) _ (digit_facts c.args.self.now c.args.n c.args.digits.now c.requires.least c.requires.digits).places)

pub degrees_of_rank-requires-clause-below : goal.degrees_of_rank-requires-clause-below
degrees_of_rank-requires-clause-below c =
    let f = digit_facts c.args.self.now c.args.n c.args.digits.now c.requires.least c.requires.digits in
    let is : get_or c.split_at-2.result.1.now 0 0 ≡ get_or c.args.digits.now (2 * c.args.n - 2) 0 =
    ap (λ l. get_or l 0 0) (c.split_at-2.ensures.back ∙ ap (drop c.args.n) c.split_at.ensures.back) ∙ f.rank_is in
    let one : c.args.n - 2 ≡ c.args.n - 1 - 1 = omega arith in
    subst (λ q. q < choose (c.d-d.result - 1) (c.args.n - 1 - 1)) (sym is)
    (subst (λ d. get_or c.args.digits.now (2 * c.args.n - 2) 0 < choose (d - 1) (c.args.n - 1 - 1)) (sym c.d-d.ensures.value)
    (subst (λ k. get_or c.args.digits.now (2 * c.args.n - 2) 0 < choose (c.args.self.now.degree - 1) k) one f.rank))

pub marks_by-requires-clause-few : goal.marks_by-requires-clause-few
marks_by-requires-clause-few c =
    let f = digit_facts c.args.self.now c.args.n c.args.digits.now c.requires.least c.requires.digits in
    let long =
    ap (λ l. length (take (length l - 1) (drop 1 l)))
    (c.split_at-2.ensures.back ∙ ap (drop c.args.n) c.split_at.ensures.back) ∙ ap length f.marks_is ∙ f.marks_long in
    let l = limits c.args.self.now.rank c.args.self.now.degree c.args.self.now.marks c.d-d.ensures.shape in
    let most = l.most_marks in
    omega arith

pub marks_by-requires-clause-small : goal.marks_by-requires-clause-small
marks_by-requires-clause-small c =
    let f = digit_facts c.args.self.now c.args.n c.args.digits.now c.requires.least c.requires.digits in
    let is =
    ap (λ l. take (length l - 1) (drop 1 l))
    (c.split_at-2.ensures.back ∙ ap (drop c.args.n) c.split_at.ensures.back) ∙ f.marks_is in
    let fits = c.ranges.n in
    All-same (λ x. x < 256) (take (length c.split_at-2.result.1.now - 1) (drop 1 c.split_at-2.result.1.now)) _ is
    (All-weaker (λ x. x < c.args.n) (λ x. x < 256) (λ x h. omega arith) _ f.marks)

pub returns-clause-value : goal.returns-clause-value
returns-clause-value c =
    let l = limits c.args.self.now.rank c.args.self.now.degree c.args.self.now.marks c.d-d.ensures.shape in
    let most = l.most_degree in
    (filled_tree c.args.self.now c.args.n c.args.digits.now c.split_at.result.0.now c.split_at-2.result.0.now c.split_at.result.1.now c.split_at-2.result.1.now
    c.edges_by-edges.result c.colours_by.result c.degrees_of_rank.result c.d-d.result c.m.result c.marks_by.result c.requires.least c.requires.most
    (omega arith) c.requires.digits
    c.split_at.ensures.front c.split_at.ensures.back c.split_at-2.ensures.front c.split_at-2.ensures.back c.edges_by-edges.ensures.value c.colours_by.ensures c.d-d.ensures.value
    c.degrees_of_rank.ensures c.m.ensures.value c.marks_by.ensures).view

pub returns-clause-padded : goal.returns-clause-padded
returns-clause-padded c =
    let l = limits c.args.self.now.rank c.args.self.now.degree c.args.self.now.marks c.d-d.ensures.shape in
    let most = l.most_degree in
    (filled_tree c.args.self.now c.args.n c.args.digits.now c.split_at.result.0.now c.split_at-2.result.0.now c.split_at.result.1.now c.split_at-2.result.1.now
    c.edges_by-edges.result c.colours_by.result c.degrees_of_rank.result c.d-d.result c.m.result c.marks_by.result c.requires.least c.requires.most
    (omega arith) c.requires.digits
    c.split_at.ensures.front c.split_at.ensures.back c.split_at-2.ensures.front c.split_at-2.ensures.back c.edges_by-edges.ensures.value c.colours_by.ensures c.d-d.ensures.value
    c.degrees_of_rank.ensures c.m.ensures.value c.marks_by.ensures).padding
