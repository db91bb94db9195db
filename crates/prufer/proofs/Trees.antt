-- Words, trees and lists of edges.
use Rattle.std.proofs.Common.{◌≡◌, ℕ, ◌+◌, ◌-◌, ◌<◌, ◌≤◌, Bool, true, ◌&&◌, ◌||◌, ◌==◌, nat_lt, List, [], ◌∷◌, length, All, refl, sym, ap, ◌∙◌, arith, ltb-true, leb-true, le-leb, eqb-true}
use Rattle.std.proofs.lemmas.Bool.{and_from, and_parts}
use Rattle.std.specs.List.{AllByRecursion, list_all}
use Rattle.std.proofs.lemmas.List.Elements.{recursion_from_All, All-from_recursion}
use Rattle.std.proofs.lemmas.Bool.Decides.{nat_tests}
use Rattle.lists.specs.Ranges.{below}
use Rattle.trees.specs.Edges.{is_increasing, is_tree}
use Rattle.lists.specs.Members.{is_member}
use Rattle.trees.specs.Words.{decoded, encoded, decoded_on, encoded_on, Fits}
use Rattle.trees.proofs.PrunedTrees.{IsPruned, decoded_on-encoded_on}
use Rattle.trees.proofs.DecodedWords.{encoded_on-decoded_on, fits-below}
use Rattle.lists.proofs.Different.{length-below, different-below, member-below, member_head, member_tail}
use Rattle.trees.proofs.Connected.{pruned}
use Rattle.trees.proofs.TreeLaws.{tree_from, tree-decoded, decodes-encoded, decoded-encoded, upward_from}
use Rattle.prufer.specs.EdgeLists.{is_edge_list}
use Rattle.prufer.specs.Correspondence.{IsWordOver, WordsAreTrees}

-- ---- words
member_letter : (n x : ℕ) (w : List ℕ) → AllByRecursion (λ v. v < n) w → is_member x w ≡ true → x < n
member_letter n x [] h m = cc
member_letter n x (y ∷ w) h m = step n x y (is_member x w) h.0 m (member_letter n x w h.1)
  where
    step : (n x y : ℕ) (b : Bool) → y < n → ((y == x) || b) ≡ true → (b ≡ true → x < n) → x < n
    step n x y b h m f = grind (arith, nat_tests)

letters_from : (n : ℕ) (w : List ℕ) → ((x : ℕ) → is_member x w ≡ true → x < n) → AllByRecursion (λ v. v < n) w
letters_from n [] h = tt
letters_from n (x ∷ w) h = (h x (member_head x w), letters_from n w (λ y m. h y (member_tail y x w m)))

-- a word fits the vertices below n exactly if it has n - 2 letters below n
pub fits_word : (n : ℕ) (w : List ℕ) → length w + 2 ≡ n → All (λ x. x < n) w → Fits (below n) w
fits_word n w e h = fits-below n w e (λ x m. member_letter n x w (recursion_from_All (λ v. v < n) w h) m)

pub word_fits : (n : ℕ) (w : List ℕ) → Fits (below n) w → IsWordOver n w
word_fits n w f = record {
  long = sym f.long ∙ length-below n;
  letters = All-from_recursion (λ v. v < n) w (letters_from n w (λ x m. ltb-true x n (sym (member-below x n) ∙ f.letters x m)));
}

encoded-decoded : (n : ℕ) (w : List ℕ) → IsWordOver n w → encoded n (decoded n w) ≡ w
unfolding decoded encoded
encoded-decoded n w h =
    ap (λ k. encoded_on k (below n) (decoded_on (below n) w)) (let l = h.long in let e : n - 2 ≡ length w = omega arith in e)
    ∙ encoded_on-decoded_on w (below n) (fits_word n w h.long h.letters)

-- words and trees correspond one to one
pub words_are_trees : (n : ℕ) → 2 ≤ n → WordsAreTrees n
words_are_trees n least = record {
  trees = λ w h. tree-decoded n w h.long (fits_word n w h.long h.letters);
  words = λ es t. (word_fits n (encoded n es) (decodes-encoded n es least t).fits, decoded-encoded n es least t);
  once = λ v w h k e. sym (encoded-decoded n v h) ∙ ap (encoded n) e ∙ encoded-decoded n w k;
}

-- the word of a tree
pub record IsWordOf (n : ℕ) (es : List (ℕ × ℕ)) (w : List ℕ) : Type 0 where
  pub fits : IsWordOver n w
  pub decodes : decoded n w ≡ es
  pub only : (v : List ℕ) → IsWordOver n v → decoded n v ≡ es → v ≡ w

pub word_of_tree : (n : ℕ) (es : List (ℕ × ℕ)) (w : List ℕ) → 2 ≤ n → is_tree n es ≡ true → w ≡ encoded n es → IsWordOf n es w
word_of_tree n es w least t e =
    let all = words_are_trees n least in
    let own = all.words es t in
    rw e (record {
      fits = own.0;
      decodes = own.1;
      only = λ v h d. all.once v (encoded n es) h own.0 (d ∙ sym own.1);
    })

-- ---- lists of edges
upward_only : (n : ℕ) (es : List (ℕ × ℕ)) → list_all (λ e. nat_lt e.0 e.1 && nat_lt e.1 n) es ≡ true → list_all (λ e. nat_lt e.0 e.1) es ≡ true
upward_only n [] h = refl
upward_only n (e ∷ es) h = let p = and_parts _ _ h in and_from _ _ (and_parts _ _ p.0).0 (upward_only n es p.1)

below_only : (n : ℕ) (es : List (ℕ × ℕ)) → list_all (λ e. nat_lt e.0 e.1 && nat_lt e.1 n) es ≡ true → list_all (λ e. nat_lt e.1 n) es ≡ true
below_only n [] h = refl
below_only n (e ∷ es) h = let p = and_parts _ _ h in and_from _ _ (and_parts _ _ p.0).1 (below_only n es p.1)

pub upward_and_below : (n : ℕ) (es : List (ℕ × ℕ)) → list_all (λ e. nat_lt e.0 e.1) es ≡ true → list_all (λ e. nat_lt e.1 n) es ≡ true
    → list_all (λ e. nat_lt e.0 e.1 && nat_lt e.1 n) es ≡ true
upward_and_below n [] h k = refl
upward_and_below n (e ∷ es) h k = let p = and_parts _ _ h in let q = and_parts _ _ k in and_from _ _ (and_from _ _ p.0 q.0) (upward_and_below n es p.1 q.1)

-- a limit that is further out
pub below_more : (n m : ℕ) (es : List (ℕ × ℕ)) → n ≤ m → list_all (λ e. nat_lt e.0 e.1 && nat_lt e.1 n) es ≡ true → list_all (λ e. nat_lt e.0 e.1 && nat_lt e.1 m) es ≡ true
below_more n m [] h k = refl
below_more n m (e ∷ es) h k = let p = and_parts _ _ k in and_from _ _ (and_from _ _ (and_parts _ _ p.0).0 (further e.1 (and_parts _ _ p.0).1)) (below_more n m es h p.1)
  where
    further : (v : ℕ) → nat_lt v n ≡ true → nat_lt v m ≡ true
    further v t = grind (arith, nat_tests)

-- the parts of the test for a list of edges
pub record IsEdgeList (es : List (ℕ × ℕ)) : Type 0 where
  pub short : length es ≤ 10
  pub increasing : is_increasing es ≡ true
  pub upward : list_all (λ e. nat_lt e.0 e.1) es ≡ true

pub edge_list : (es : List (ℕ × ℕ)) → is_edge_list es ≡ true → IsEdgeList es
edge_list es h =
    let p = and_parts _ _ h in
    let q = and_parts _ _ p.0 in
    record { short = leb-true (length es) 10 q.0; increasing = q.1; upward = p.1 }

-- a tree on at most 11 vertices is a list of edges
pub edge_list-tree : (n : ℕ) (es : List (ℕ × ℕ)) → n ≤ 11 → is_tree n es ≡ true → is_edge_list es ≡ true
edge_list-tree n es most t =
    let p = and_parts _ _ t in
    let q = and_parts _ _ p.0 in
    let set = and_parts _ _ q.0 in
    and_from _ _ (and_from _ _ (le-leb (length es) 10 (let c = eqb-true (length es + 1) n q.1 in omega arith)) set.0) (upward_only n es set.1)

-- what each tree is: one edge less than vertices, and ends below n
pub can_be_tree : (n : ℕ) (es : List (ℕ × ℕ)) → is_tree n es ≡ true → ((length es + 1 == n) && list_all (λ e. nat_lt e.1 n) es) ≡ true
can_be_tree n es t =
    let p = and_parts _ _ t in
    let q = and_parts _ _ p.0 in
    and_from _ _ q.1 (below_only n es (and_parts _ _ q.0).1)

-- ---- trees are what is taken apart leaf by leaf
pub pruned-tree : (n : ℕ) (es : List (ℕ × ℕ)) → 2 ≤ n → is_tree n es ≡ true → IsPruned (n - 2) (below n) es
pruned-tree n es least t =
    pruned (n - 2) (below n) es (length-below n ∙ (let e : n ≡ n - 2 + 2 = omega arith in e)) (tree_from n es (omega arith) t)

pub tree-pruned : (n : ℕ) (es : List (ℕ × ℕ)) → 2 ≤ n → IsEdgeList es → list_all (λ e. nat_lt e.1 n) es ≡ true → IsPruned (n - 2) (below n) es → is_tree n es ≡ true
unfolding decoded encoded
tree-pruned n es least l ends p =
    let up = upward_from n es (upward_and_below n es l.upward ends) in
    let d = decoded_on-encoded_on (n - 2) (below n) es (different-below n) l.increasing up p in
    ap (is_tree n) (sym d.is) ∙ tree-decoded n (encoded_on (n - 2) (below n) es) (sym d.fits.long ∙ length-below n) d.fits
