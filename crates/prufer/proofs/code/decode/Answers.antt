-- After each letter, the edges made so far, put into the tree of the letters that are left, are the tree of the whole
-- word (`IsDecoding`); the degrees tell the smallest leaf.
use Rattle.std.proofs.Common.{◌≡◌, ℕ, ◌+◌, ◌<◌, ◌≤◌, ◌∷◌, List, [], length, drop, get_or, set, arith, sym, ap, ◌∙◌, subst, Some, Option, position, ◌==◌, suc, nat_lt, if◌then◌else◌}
use Rattle.std.proofs.lemmas.List.{drop_more}
use Rattle.std.proofs.Math.ListN.{drop_of_length-le}
use Rattle.trees.specs.Words.{edge_between, insert_edge, decoded}
use Rattle.lists.specs.Members.{count_in}
use Rattle.trees.proofs.TreeLaws.{tree-decoded}
use Rattle.prufer.proofs.Leaves.{first_one}
use Rattle.prufer.proofs.Decoding.{IsDecoding, decoding_start, decoding_step, decoding_end, letter_from, leaf_exists, last_two, last_exists}
use Rattle.prufer.proofs.Trees.{fits_word, edge_list-tree}
use Rattle.prufer.proofs.code.decode.Goals as goal

-- the letters from an index on, of which there is one
next_letter : (n : ℕ) (word letters degrees : List ℕ) (made : List (ℕ × ℕ)) (i : ℕ) → i < length letters → IsDecoding n word (drop i letters) degrees made
    → IsDecoding n word (get_or letters i 0 ∷ drop (i + 1) letters) degrees made
next_letter n word letters degrees made i h s = subst (λ rest. IsDecoding n word rest degrees made) (drop_more letters i 0 h) s

-- the end of the letters
no_letter : (n : ℕ) (word letters degrees : List ℕ) (made : List (ℕ × ℕ)) (i : ℕ) → length letters ≤ i → IsDecoding n word (drop i letters) degrees made
    → IsDecoding n word [] degrees made
no_letter n word letters degrees made i h s = subst (λ rest. IsDecoding n word rest degrees made) (drop_of_length-le letters h) s

pub loop-letter-init : goal.loop-letter-init
loop-letter-init c =
    let word = c.args.word.now in
    rw (c.as_slice-letters.ensures.value, c.empty-edges.ensures)
    (decoding_start c.args.n word c.degrees_of_word-degrees.result c.requires.most (fits_word c.args.n word c.requires.letters c.requires.within)
    c.degrees_of_word-degrees.ensures.long (λ v h. c.degrees_of_word-degrees.ensures.degrees v h ∙ ap (λ l. if nat_lt v c.args.n then suc (count_in v l) else 0) c.as_slice-letters.ensures.value))

pub unwrap-leaf-requires : goal.unwrap-leaf-requires
unwrap-leaf-requires c =
    let s = c.loop-letter.invariant in
    leaf_exists s.vertices _ c.loop-letter.degrees _ s.counts s.fits c.first_leaf.ensures

pub with-edges-requires : goal.with-edges-requires
with-edges-requires c = let count = c.loop-letter.invariant.count in let short = c.as_slice-letters.ensures.limited in omega arith

pub bounds-degrees-leaf : goal.bounds-degrees-leaf
bounds-degrees-leaf c =
    (letter_from _ _ _ _ _ c.unwrap-leaf.result _ (next_letter _ _ c.as_slice-letters.result.now _ _ c.loop-letter.letter-index c.loop-letter-test.true c.loop-letter.invariant) (first_one _ _ (sym c.unwrap-leaf.ensures ∙ c.first_leaf.ensures))).leaf_below

pub overflow_sub-degrees : goal.overflow_sub-degrees
overflow_sub-degrees c =
    (letter_from _ _ _ _ _ c.unwrap-leaf.result _ (next_letter _ _ c.as_slice-letters.result.now _ _ c.loop-letter.letter-index c.loop-letter-test.true c.loop-letter.invariant) (first_one _ _ (sym c.unwrap-leaf.ensures ∙ c.first_leaf.ensures))).some

pub loop-letter-preserved : goal.loop-letter-preserved
loop-letter-preserved c =
    rw (c.with-edges.ensures, c.edge_between.ensures)
    (decoding_step _ _ _ _ _ c.unwrap-leaf.result _ (next_letter _ _ c.as_slice-letters.result.now _ _ c.loop-letter.letter-index c.loop-letter-test.true c.loop-letter.invariant) (first_one _ _ (sym c.unwrap-leaf.ensures ∙ c.first_leaf.ensures)))

pub unwrap-first-requires : goal.unwrap-first-requires
unwrap-first-requires c =
    let s = c.loop-letter.invariant in
    leaf_exists s.vertices _ c.loop-letter.degrees _ s.counts s.fits c.first_leaf-2.ensures

pub bounds-degrees-first : goal.bounds-degrees-first
bounds-degrees-first c =
    let first = first_one _ _ (sym c.unwrap-first.ensures ∙ c.first_leaf-2.ensures) in
    let below : c.unwrap-first.result < length c.loop-letter.degrees = first.below in
    let long : length c.loop-letter.degrees ≡ 11 = c.loop-letter.invariant.counts.long in
    omega arith

pub unwrap-last-requires : goal.unwrap-last-requires
unwrap-last-requires c =
    let s = no_letter _ _ c.as_slice-letters.result.now _ _ c.loop-letter.letter-index c.loop-letter-test.false c.loop-letter.invariant in
    last_exists s.vertices c.loop-letter.degrees c.unwrap-first.result _
    (last_two s.vertices c.loop-letter.degrees c.unwrap-first.result s.counts s.fits (first_one _ _ (sym c.unwrap-first.ensures ∙ c.first_leaf-2.ensures))) c.first_leaf-3.ensures

pub with-requires : goal.with-requires
with-requires c = let count = c.loop-letter.invariant.count in let short = c.as_slice-letters.ensures.limited in omega arith

made : (n : ℕ) (word letters degrees : List ℕ) (edges : List (ℕ × ℕ)) (i first last : ℕ) → length letters ≤ i → IsDecoding n word (drop i letters) degrees edges
    → (f l : Option ℕ) → f ≡ position (λ d. d == 1) degrees → f ≡ Some first → l ≡ position (λ d. d == 1) (set degrees first 0) → l ≡ Some last
    → insert_edge (edge_between first last) edges ≡ decoded n word
made n word letters degrees edges i first last h s f l p q r t =
    decoding_end n word degrees edges first last (no_letter n word letters degrees edges i h s) (first_one degrees first (sym q ∙ p)) (first_one (set degrees first 0) last (sym t ∙ r))

pub from_pairs-requires : goal.from_pairs-requires
from_pairs-requires c =
    let whole = made _ _ c.as_slice-letters.result.now _ c.loop-letter.edges c.loop-letter.letter-index c.unwrap-first.result c.unwrap-last.result
    c.loop-letter-test.false c.loop-letter.invariant _ _ c.first_leaf-2.ensures c.unwrap-first.ensures c.first_leaf-3.ensures c.unwrap-last.ensures in
    let word = c.args.word.now in
    let tree = tree-decoded c.args.n word c.requires.letters (fits_word c.args.n word c.requires.letters c.requires.within) in
    rw (c.with.ensures, c.edge_between-2.ensures, whole) (edge_list-tree c.args.n (decoded c.args.n word) c.requires.most tree)

pub returns-clause-edges : goal.returns-clause-edges
returns-clause-edges c =
    c.from_pairs.ensures ∙ c.with.ensures ∙ ap (λ e. insert_edge e c.loop-letter.edges) c.edge_between-2.ensures
    ∙ made _ _ c.as_slice-letters.result.now _ c.loop-letter.edges c.loop-letter.letter-index c.unwrap-first.result c.unwrap-last.result
    c.loop-letter-test.false c.loop-letter.invariant _ _ c.first_leaf-2.ensures c.unwrap-first.ensures c.first_leaf-3.ensures c.unwrap-last.ensures

pub returns-clause-tree : goal.returns-clause-tree
returns-clause-tree c =
    let whole = made _ _ c.as_slice-letters.result.now _ c.loop-letter.edges c.loop-letter.letter-index c.unwrap-first.result c.unwrap-last.result
    c.loop-letter-test.false c.loop-letter.invariant _ _ c.first_leaf-2.ensures c.unwrap-first.ensures c.first_leaf-3.ensures c.unwrap-last.ensures in
    let word = c.args.word.now in
    rw (c.from_pairs.ensures, c.with.ensures, c.edge_between-2.ensures, whole) (tree-decoded c.args.n word c.requires.letters (fits_word c.args.n word c.requires.letters c.requires.within))
