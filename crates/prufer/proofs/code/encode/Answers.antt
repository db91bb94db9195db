-- What fails the first test is no tree; every other list is a tree exactly if its word is found, and the word of a
-- tree decodes to that tree.
use Rattle.std.proofs.Common.{◌≡◌, ℕ, ◌+◌, ◌&&◌, ◌==◌, Bool, true, false, nat_lt, List, length, IsTrue, IfOk, rules, sym, ap, ◌∙◌, refl}
use Rattle.std.specs.List.{list_all}
use Rattle.std.proofs.lemmas.Result.{IfOk-weaker}
use Rattle.trees.specs.Edges.{is_tree}
use Rattle.trees.specs.Words.{encoded}
use Rattle.prufer.proofs.Trees.{can_be_tree, words_are_trees, word_of_tree}
use Rattle.prufer.proofs.code.encode.Goals as goal

-- what cannot be a tree is none
no_tree : (n : ℕ) (es own : List (ℕ × ℕ)) (b : Bool) → es ≡ own → false ≡ ((length es + 1 == n) && list_all (λ e. nat_lt e.1 n) es) → is_tree n own ≡ b → b ≡ false
no_tree n es own true e f t = absurd (let x : true ≡ false = sym (can_be_tree n own t) ∙ ap (λ l. (length l + 1 == n) && list_all (λ e. nat_lt e.1 n) l) (sym e) ∙ sym f in cc)
no_tree n es own false e f t = refl

pub returns-then-not-can_be_tree-clause-not_a_tree : goal.returns-then-not-can_be_tree-clause-not_a_tree
returns-then-not-can_be_tree-clause-not_a_tree c =
    (λ _. no_tree c.args.n c.as_slice.result.now c.args.edges.now _ (c.as_slice.ensures.value ∙ c.pairs-pairs.ensures.value) c.if-not-can_be_tree.ensures refl, λ _. refl)

pub returns-then-not-can_be_tree-clause-tree : goal.returns-then-not-can_be_tree-clause-tree
returns-then-not-can_be_tree-clause-tree c = (
  λ e. absurd (let never : false ≡ true = e in cc),
  λ t. sym (no_tree c.args.n c.as_slice.result.now c.args.edges.now _ (c.as_slice.ensures.value ∙ c.pairs-pairs.ensures.value) c.if-not-can_be_tree.ensures refl) ∙ t,
)

pub returns-then-not-can_be_tree-clause-one_to_one : goal.returns-then-not-can_be_tree-clause-one_to_one
returns-then-not-can_be_tree-clause-one_to_one c = words_are_trees c.args.n c.requires.least

pub returns-clause-fits : goal.returns-clause-fits
returns-clause-fits c =
    let is : IfOk c.ok_or.result (λ word. IsTrue (is_tree c.args.n c.args.edges.now) × (word ≡ encoded c.args.n c.args.edges.now)) = search rules in
    IfOk-weaker _ _ _ (λ word h. (word_of_tree c.args.n c.args.edges.now word c.requires.least h.0 h.1).fits) is

pub returns-clause-decodes : goal.returns-clause-decodes
returns-clause-decodes c =
    let is : IfOk c.ok_or.result (λ word. IsTrue (is_tree c.args.n c.args.edges.now) × (word ≡ encoded c.args.n c.args.edges.now)) = search rules in
    IfOk-weaker _ _ _ (λ word h. (word_of_tree c.args.n c.args.edges.now word c.requires.least h.0 h.1).decodes) is

pub returns-clause-only : goal.returns-clause-only
returns-clause-only c =
    let is : IfOk c.ok_or.result (λ word. IsTrue (is_tree c.args.n c.args.edges.now) × (word ≡ encoded c.args.n c.args.edges.now)) = search rules in
    IfOk-weaker _ _ _ (λ word h. (word_of_tree c.args.n c.args.edges.now word c.requires.least h.0 h.1).only) is

pub returns-clause-one_to_one : goal.returns-clause-one_to_one
returns-clause-one_to_one c = words_are_trees c.args.n c.requires.least
