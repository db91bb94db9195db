-- The decorated trees with n vertices and their digits correspond.
use Rattle.std.proofs.Common.{◌≡◌, ◌≢◌, ℕ, ◌+◌, ◌-◌, ◌*◌, ◌<◌, ◌≤◌, Bool, true, false, ◌==◌, not, nat_le, List, [], ◌∷◌, ◌++◌, length, get_or, take, drop, refl, sym, ap, ap₂, ◌∙◌, subst, arith, eqb-true, eq-eqb, ltb-true, leb-true, le-leb}
use Rattle.std.specs.List.{list_all}
use Rattle.std.proofs.lemmas.List.{get_or-append-add}
use Rattle.std.proofs.Math.Seq.{take-append_seam, drop-append_seam, drop-append-add, get_or-append_seam}
use Rattle.lists.specs.Ranges.{below}
use Rattle.trees.specs.Edges.{is_tree}
use Rattle.trees.specs.Decorated.{DecoratedTree, TreeShape, is_decorated, ends_differ}
use Rattle.trees.specs.Words.{decoded, encoded, decoded_on, encoded_on, Fits}
use Rattle.trees.specs.DegreeLists.{AreDegrees, degree_lists, rank_of}
use Rattle.lists.specs.Digits.{AreDigits}
use Rattle.trees.specs.TreeNumbers.{bases, tree_by, digits_by}
use Rattle.trees.specs.Walks.{walk_in, coloured, digits_of}
use Rattle.lists.specs.Members.{IsIn, here, there}
use Rattle.std.proofs.lemmas.Bool.{and_parts, and_from}
use Rattle.lists.proofs.Members.{each_of, all_from, StandsAt, place_in, in_place}
use Rattle.trees.proofs.AllTrees.{IsDecorated, parts, decorated_from}
use Rattle.trees.proofs.DecodedWords.{encoded_on-decoded_on, length-decoded_on, fits-below}
use Rattle.lists.proofs.Different.{length-below, member-below}
use Rattle.trees.proofs.TreeLaws.{tree-decoded, decodes-encoded, decoded-encoded}
use Rattle.trees.proofs.WalkedEdges.{IsTreeWalk, tree_walk}
use Rattle.trees.proofs.ColourDigits.{AreColours, EndsApart, colours_from, digits_back, digits_from, colours_back}
use Rattle.trees.proofs.DegreeRanks.{ranked}
use Rattle.trees.proofs.DigitParts.{AreTreeDigits, tree_digits, digits_of_tree, regroup_digits}

encoded-decoded : (n : ℕ) (w : List ℕ) → length w + 2 ≡ n → Fits (below n) w → encoded n (decoded n w) ≡ w
unfolding decoded encoded
encoded-decoded n w e f = ap (λ k. encoded_on k (below n) (decoded_on (below n) w)) (let l : n - 2 ≡ length w = omega arith in l) ∙ encoded_on-decoded_on w (below n) f

-- ---- the tree that the parts of digits stand for
pub tree_with : TreeShape → ℕ → List ℕ → List ℕ → ℕ → List ℕ → DecoratedTree
tree_with s n w cs q ms = record {
  vertices = n;
  edges = decoded n w;
  colours = coloured (walk_in n (decoded n w) (0 ∷ [])) cs cs;
  degrees = get_or (degree_lists (n - 1) s.degree) q [];
  marks = ms;
}

-- which digits are which part
tree_by-parts : (s : TreeShape) (n : ℕ) (w cs : List ℕ) (q : ℕ) (ms : List ℕ) → length w + 2 ≡ n → length cs ≡ n
    → tree_by s n (w ++ (cs ++ q ∷ ms)) ≡ tree_with s n w cs q ms
unfolding tree_with
tree_by-parts s n w cs q ms e f =
    let ds = w ++ (cs ++ q ∷ ms) in
    let front : n - 2 ≡ length w = omega arith in
    let at_rank : 2 * n - 2 ≡ length w + length cs = omega arith in
    let at_marks : 2 * n - 1 ≡ length w + (length cs + 1) = omega arith in
    let rest : drop (n - 2) ds ≡ cs ++ q ∷ ms = ap (λ k. drop k ds) front ∙ drop-append_seam w (cs ++ q ∷ ms) in
    let word : take (n - 2) ds ≡ w = ap (λ k. take k ds) front ∙ take-append_seam w (cs ++ q ∷ ms) in
    let colours : take n (drop (n - 2) ds) ≡ cs = ap (take n) rest ∙ ap (λ k. take k (cs ++ q ∷ ms)) (sym f) ∙ take-append_seam cs (q ∷ ms) in
    let rank : get_or ds (2 * n - 2) 0 ≡ q =
    ap (λ k. get_or ds k 0) at_rank ∙ get_or-append-add w (cs ++ q ∷ ms) (length cs) 0 ∙ get_or-append_seam cs q ms 0 in
    let marks : drop (2 * n - 1) ds ≡ ms = ap (λ k. drop k ds) at_marks ∙ drop-append-add w (cs ++ q ∷ ms) (length cs + 1) ∙ drop-append-add cs (q ∷ ms) 1 in
    ap (λ v. tree_with s n v (take n (drop (n - 2) ds)) (get_or ds (2 * n - 2) 0) (drop (2 * n - 1) ds)) word
    ∙ ap (λ v. tree_with s n w v (get_or ds (2 * n - 2) 0) (drop (2 * n - 1) ds)) colours
    ∙ ap (λ v. tree_with s n w cs v (drop (2 * n - 1) ds)) rank
    ∙ ap (tree_with s n w cs q) marks

-- ---- colours, as tests and as facts
tests_hold : (p : ℕ → Bool) (xs : List ℕ) → ((v : ℕ) → v < length xs → p (get_or xs v 0) ≡ true) → list_all p xs ≡ true
tests_hold p xs h = all_from p xs (λ x i. each x (place_in xs 0 x i))
  where
    each : (x : ℕ) → StandsAt xs 0 x → p x ≡ true
    each x a = subst (λ z. p z ≡ true) a.is (h a.place a.within)

apart_test : (x y : ℕ) → x ≢ y → not (x == y) ≡ true
apart_test x y ne = by (x == y) refl
  where
    by : (b : Bool) → (x == y) ≡ b → not b ≡ true
    by true e = absurd (ne (eqb-true x y e))
    by false e = refl

test_apart : (x y : ℕ) → not (x == y) ≡ true → x ≢ y
test_apart x y h e = absurd (let t : (x == y) ≡ true = eq-eqb x y e in let u : not (x == y) ≡ false = ap not t in let v : true ≡ false = sym h ∙ u in cc)

edge_tests : (cs : List ℕ) (es : List (ℕ × ℕ)) → ((e : ℕ × ℕ) → IsIn e es → EndsApart cs e) → list_all (ends_differ cs) es ≡ true
edge_tests cs [] h = refl
edge_tests cs (e ∷ es) h = and_from (ends_differ cs e) (list_all (ends_differ cs) es) (apart_test (get_or cs e.0 0) (get_or cs e.1 0) (h e here)) (edge_tests cs es (λ f i. h f (there i)))

-- ---- from digits to trees and back
module _ (s : TreeShape) (n : ℕ) (least : 2 ≤ n) (most : n ≤ s.degree + 1) (small : s.degree < 11) (w cs : List ℕ) (q : ℕ) (ms : List ℕ) (h : AreTreeDigits s n w cs q ms) where
  fits : Fits (below n) w
  fits = fits-below n w h.word_long h.letters

  its_tree : is_tree n (decoded n w) ≡ true
  its_tree = tree-decoded n w h.word_long fits

  its_walk : IsTreeWalk n (decoded n w) (walk_in n (decoded n w) (0 ∷ []))
  its_walk = tree_walk n (decoded n w) its_tree

  pub tree_with_decorated : is_decorated s (tree_with s n w cs q ms) ≡ true
  unfolding tree_with decoded
  tree_with_decorated =
      let c = colours_from n s.rank (decoded n w) (walk_in n (decoded n w) (0 ∷ [])) (omega arith) its_walk cs h.colours in
      let d = (ranked n s.degree least most small).degrees q h.rank in
      let edges = length-decoded_on (below n) w fits in
      let e = h.word_long in
      let long = d.long in
      let colours_long = c.long in
      decorated_from s (tree_with s n w cs q ms) (record {
        least = least;
        most = most;
        tree = its_tree;
        colours = colours_long;
        colours_within = tests_hold (λ c. nat_le c s.rank) (coloured (walk_in n (decoded n w) (0 ∷ [])) cs cs) (λ v k. le-leb _ s.rank (c.within v (subst (λ m. v < m) colours_long k)));
        differ = edge_tests (coloured (walk_in n (decoded n w) (0 ∷ [])) cs cs) (decoded n w) c.differ;
        degrees = (omega arith);
        degrees_positive = d.positive;
        degrees_sum = d.total;
        marks = h.marks_long;
        marks_within = h.marks_within;
      })

  pub digits_by-tree_with : digits_by s (tree_with s n w cs q ms) ≡ w ++ (cs ++ q ∷ ms)
  unfolding tree_with
  digits_by-tree_with =
      let walk = walk_in n (decoded n w) (0 ∷ []) in
      let degrees = get_or (degree_lists (n - 1) s.degree) q [] in
      let back = digits_back n s.rank (decoded n w) walk (omega arith) its_walk cs h.colours in
      let rank = (ranked n s.degree least most small).back q h.rank in
      regroup_digits (encoded n (decoded n w)) (digits_of walk (coloured walk cs cs) (coloured walk cs cs)) (rank_of degrees s.degree) ms
      ∙ ap (λ z. z ++ (digits_of walk (coloured walk cs cs) (coloured walk cs cs) ++ rank_of degrees s.degree ∷ ms)) (encoded-decoded n w h.word_long fits)
      ∙ ap (λ z. w ++ (z ++ rank_of degrees s.degree ∷ ms)) back
      ∙ ap (λ z. w ++ (cs ++ z ∷ ms)) rank

-- ---- from trees to digits and back
module _ (s : TreeShape) (g : DecoratedTree) (d : IsDecorated s g) (small : s.degree < 11) where
  walk_of : List (ℕ × ℕ)
  walk_of = walk_in g.vertices g.edges (0 ∷ [])

  colours_of : AreColours g.vertices s.rank g.edges g.colours
  colours_of = record {
    long = d.colours;
    within = λ v k. leb-true _ s.rank (each_of (λ c. nat_le c s.rank) g.colours d.colours_within (in_place g.colours 0 v (let e = d.colours in omega arith)));
    differ = λ e i. test_apart (get_or g.colours e.0 0) (get_or g.colours e.1 0) (each_of (ends_differ g.colours) g.edges d.differ i);
  }

  edge_count : length g.edges + 1 ≡ g.vertices
  edge_count = eqb-true (length g.edges + 1) g.vertices (and_parts _ _ (and_parts _ _ d.tree).0).1

  degrees_of : AreDegrees (g.vertices - 1) s.degree g.degrees
  degrees_of = record { long = (let e = edge_count in let f = d.degrees in omega arith); positive = d.degrees_positive; total = d.degrees_sum }

  pub digits_with : AreTreeDigits s g.vertices (encoded g.vertices g.edges) (digits_of (walk_in g.vertices g.edges (0 ∷ [])) g.colours g.colours) (rank_of g.degrees s.degree) g.marks
  unfolding walk_of
  digits_with =
      let fits = (decodes-encoded g.vertices g.edges d.least d.tree).fits in
      let some : 0 < g.vertices = (let l = d.least in omega arith) in
      record {
        word_long = sym fits.long ∙ length-below g.vertices;
        letters = λ x m. ltb-true x g.vertices (sym (member-below x g.vertices) ∙ fits.letters x m);
        colours = digits_from g.vertices s.rank g.edges walk_of some (tree_walk g.vertices g.edges d.tree) g.colours colours_of;
        rank = (ranked g.vertices s.degree d.least d.most small).within g.degrees degrees_of;
        marks_long = d.marks;
        marks_within = d.marks_within;
      }

  pub tree_with-digits : tree_with s g.vertices (encoded g.vertices g.edges) (digits_of (walk_in g.vertices g.edges (0 ∷ [])) g.colours g.colours) (rank_of g.degrees s.degree) g.marks ≡ g
  unfolding tree_with walk_of
  tree_with-digits =
      let n = g.vertices in
      let ds = digits_of walk_of g.colours g.colours in
      let edges = decoded-encoded n g.edges d.least d.tree in
      let some : 0 < n = (let l = d.least in omega arith) in
      let colours = colours_back n s.rank g.edges walk_of some (tree_walk n g.edges d.tree) g.colours colours_of in
      let degrees = (ranked n s.degree d.least d.most small).there_of g.degrees degrees_of in
      ap (λ es. record {
        vertices = n;
        edges = es;
        colours = coloured (walk_in n es (0 ∷ [])) ds ds;
        degrees = get_or (degree_lists (n - 1) s.degree) (rank_of g.degrees s.degree) [];
        marks = g.marks;
      }) edges
      ∙ ap₂ (λ (cs bs : List ℕ). record { vertices = n; edges = g.edges; colours = cs; degrees = bs; marks = g.marks }) colours degrees

-- ---- the digits as one list
pub tree_by_decorated : (s : TreeShape) (n : ℕ) (ds : List ℕ) → 2 ≤ n → n ≤ s.degree + 1 → s.degree < 11 → AreDigits (bases s n) ds → is_decorated s (tree_by s n ds) ≡ true
tree_by_decorated s n ds least most small h =
    let t = tree_digits s n ds least h in
    ap (λ z. is_decorated s (tree_by s n z)) t.is ∙ ap (is_decorated s) (tree_by-parts s n t.word t.colours t.rank t.marks t.digits.word_long t.digits.colours.long)
    ∙ tree_with_decorated s n least most small t.word t.colours t.rank t.marks t.digits

pub digits_by-tree_by : (s : TreeShape) (n : ℕ) (ds : List ℕ) → 2 ≤ n → n ≤ s.degree + 1 → s.degree < 11 → AreDigits (bases s n) ds → digits_by s (tree_by s n ds) ≡ ds
digits_by-tree_by s n ds least most small h =
    let t = tree_digits s n ds least h in
    ap (λ z. digits_by s (tree_by s n z)) t.is ∙ ap (digits_by s) (tree_by-parts s n t.word t.colours t.rank t.marks t.digits.word_long t.digits.colours.long)
    ∙ digits_by-tree_with s n least most small t.word t.colours t.rank t.marks t.digits ∙ sym t.is

pub digits_by_digits : (s : TreeShape) (g : DecoratedTree) → s.degree < 11 → is_decorated s g ≡ true → AreDigits (bases s g.vertices) (digits_by s g)
digits_by_digits s g small h =
    let d = parts s g h in
    let n = g.vertices in
    subst (AreDigits (bases s n)) (sym (regroup_digits (encoded n g.edges) (digits_of (walk_in n g.edges (0 ∷ [])) g.colours g.colours) (rank_of g.degrees s.degree) g.marks))
    (digits_of_tree s n (encoded n g.edges) (digits_of (walk_in n g.edges (0 ∷ [])) g.colours g.colours) (rank_of g.degrees s.degree) g.marks d.least (digits_with s g d small))

pub tree_by-digits_by : (s : TreeShape) (g : DecoratedTree) → s.degree < 11 → is_decorated s g ≡ true → tree_by s g.vertices (digits_by s g) ≡ g
tree_by-digits_by s g small h =
    let d = parts s g h in
    let n = g.vertices in
    let t = digits_with s g d small in
    ap (tree_by s n) (regroup_digits (encoded n g.edges) (digits_of (walk_in n g.edges (0 ∷ [])) g.colours g.colours) (rank_of g.degrees s.degree) g.marks)
    ∙ tree_by-parts s n (encoded n g.edges) (digits_of (walk_in n g.edges (0 ∷ [])) g.colours g.colours) (rank_of g.degrees s.degree) g.marks t.word_long t.colours.long
    ∙ tree_with-digits s g d small
