-- The numbers below the count and the decorated trees of a shape correspond one to one.
use Rattle.std.proofs.Common.{◌≡◌, ℕ, zero, suc, ◌+◌, ◌-◌, ◌<◌, ◌≤◌, Bool, true, if◌then◌else◌, List, [], ◌∷◌, ◌++◌, length, map, refl, sym, ap, ◌∙◌, subst, ⊎_elim, arith, lt-ltb, le-ltb, IsPermutation}
use Rattle.std.proofs.lemmas.Bool.{cases_lt}
use Rattle.std.proofs.lemmas.List.{length-map}
use Rattle.std.proofs.lemmas.List.Sorted.{length_permutation}
use Rattle.lists.specs.Ranges.{below}
use Rattle.trees.specs.Decorated.{DecoratedTree, TreeShape, is_decorated, all_trees}
use Rattle.lists.specs.Digits.{joined, split}
use Rattle.trees.specs.TreeNumbers.{bases, trees_with, trees_from, tree_count, tree_by, tree_from, tree_of, digits_by, number_of, numbered_trees}
use Rattle.trees.specs.Correspondence.{NumbersAreTrees}
use Rattle.lists.specs.Members.{IsIn}
use Rattle.trees.proofs.AllTrees.{IsDecorated, parts, in_all_trees, is_in_all_trees}
use Rattle.trees.proofs.AllTrees
use Rattle.lists.proofs.Different.{length-below}
use Rattle.lists.proofs.Digits.{split-joined, joined-split}
use Rattle.trees.proofs.TreeDigits.{tree_by_decorated, digits_by-tree_by, digits_by_digits, tree_by-digits_by}

-- ---- over all numbers of vertices
-- a number is one of the trees with n + skipped vertices, after those with fewer
pub record StandsWith (s : TreeShape) (n more k : ℕ) : Type 0 where
  pub skipped : ℕ
  pub rest : ℕ
  pub within : skipped < more
  pub below : rest < trees_with s (n + skipped)
  pub tree : tree_from s n more k ≡ tree_by s (n + skipped) (split (bases s (n + skipped)) rest)
  pub is : trees_from s n skipped + rest ≡ k

pub first_kind : (s : TreeShape) (n more k : ℕ) → k < trees_with s n → tree_from s n (suc more) k ≡ tree_by s n (split (bases s n) k)
first_kind s n more k h =
    ap (λ (b : Bool). if b then tree_by s n (split (bases s n) k) else tree_from s (n + 1) more (k - trees_with s n)) (lt-ltb k (trees_with s n) h)

pub later_kind : (s : TreeShape) (n more k : ℕ) → trees_with s n ≤ k → tree_from s n (suc more) k ≡ tree_from s (n + 1) more (k - trees_with s n)
later_kind s n more k h =
    ap (λ (b : Bool). if b then tree_by s n (split (bases s n) k) else tree_from s (n + 1) more (k - trees_with s n)) (le-ltb k (trees_with s n) h)

stands_with : (s : TreeShape) (n more k : ℕ) → k < trees_from s n more → StandsWith s n more k
stands_with s n zero k h = absurd (omega arith)
stands_with s n (suc more) k h = ⊎_elim (λ l. first l) (λ l. later l (stands_with s (n + 1) more (k - trees_with s n) (omega arith))) (cases_lt k (trees_with s n))
  where
    first : k < trees_with s n → StandsWith s n (suc more) k
    first l =
        let same : n ≡ n + 0 = omega arith in
        record {
          skipped = 0;
          rest = k;
          within = omega arith;
          below = subst (λ z. k < trees_with s z) same l;
          tree = first_kind s n more k l ∙ ap (λ z. tree_by s z (split (bases s z) k)) same;
          is = omega arith;
        }

    later : trees_with s n ≤ k → StandsWith s (n + 1) more (k - trees_with s n) → StandsWith s n (suc more) k
    later l r =
        let same : n + 1 + r.skipped ≡ n + suc r.skipped = omega arith in
        let rest = r.rest in
        record {
          skipped = suc r.skipped;
          rest = rest;
          within = (let w = r.within in omega arith);
          below = subst (λ z. rest < trees_with s z) same r.below;
          tree = later_kind s n more k l ∙ r.tree ∙ ap (λ z. tree_by s z (split (bases s z) rest)) same;
          is = (let e = r.is in omega arith);
        }

-- the number of a tree with n + skipped vertices, and its tree
number_stands : (s : TreeShape) (n more skipped rest : ℕ) → skipped < more → rest < trees_with s (n + skipped)
    → (trees_from s n skipped + rest < trees_from s n more) × (tree_from s n more (trees_from s n skipped + rest) ≡ tree_by s (n + skipped) (split (bases s (n + skipped)) rest))
number_stands s n zero skipped rest h k = absurd (omega arith)
number_stands s n (suc more) zero rest h k =
    let same : n + 0 ≡ n = omega arith in
    let l : rest < trees_with s n = subst (λ z. rest < trees_with s z) same k in
    let none : 0 + rest ≡ rest = omega arith in
    (omega arith, ap (tree_from s n (suc more)) none ∙ first_kind s n more rest l ∙ ap (λ z. tree_by s z (split (bases s z) rest)) (sym same))
number_stands s n (suc more) (suc skipped) rest h k =
    let same : n + suc skipped ≡ n + 1 + skipped = omega arith in
    let r = number_stands s (n + 1) more skipped rest (omega arith) (subst (λ z. rest < trees_with s z) same k) in
    let less = r.0 in
    let first = trees_with s n in
    let whole = trees_with s n + trees_from s (n + 1) skipped + rest in
    let minus : whole - first ≡ trees_from s (n + 1) skipped + rest = omega arith in
    (omega arith, later_kind s n more whole (omega arith) ∙ ap (tree_from s (n + 1) more) minus ∙ r.1 ∙ ap (λ z. tree_by s z (split (bases s z) rest)) (sym same))

-- ---- one to one
pub record IsNumbered (s : TreeShape) (k : ℕ) (g : DecoratedTree) : Type 0 where
  pub below : k < tree_count s
  pub decorated : is_decorated s g ≡ true
  pub tree : tree_of s k ≡ g
  pub number : number_of s g ≡ k

-- the tree of each number below the count
pub tree_numbered : (s : TreeShape) (k : ℕ) → s.degree < 11 → k < tree_count s → IsNumbered s k (tree_of s k)
unfolding tree_count tree_of number_of
tree_numbered s k small h =
    let r = stands_with s 2 s.degree k h in
    let n = 2 + r.skipped in
    let within = r.within in
    let digits = joined-split (bases s n) r.rest r.below in
    let ds = split (bases s n) r.rest in
    let skipped : n - 2 ≡ r.skipped = omega arith in
    record {
      below = h;
      decorated = ap (is_decorated s) r.tree ∙ tree_by_decorated s n ds (omega arith) (omega arith) small digits.0;
      tree = refl;
      number =
          ap (number_of s) r.tree
          ∙ ap (λ xs. trees_from s 2 (n - 2) + joined (bases s n) xs) (digits_by-tree_by s n ds (omega arith) (omega arith) small digits.0)
          ∙ ap (λ z. trees_from s 2 (n - 2) + z) digits.1 ∙ ap (λ z. trees_from s 2 z + r.rest) skipped ∙ r.is;
    }

-- the number of each decorated tree
pub number_numbered : (s : TreeShape) (g : DecoratedTree) → s.degree < 11 → is_decorated s g ≡ true → IsNumbered s (number_of s g) g
unfolding tree_count tree_of number_of
number_numbered s g small h =
    let d = parts s g h in
    let least = d.least in
    let most = d.most in
    let n = g.vertices in
    let digits = split-joined (bases s n) (digits_by s g) (digits_by_digits s g small h) in
    let same : n ≡ 2 + (n - 2) = omega arith in
    let rest = joined (bases s n) (digits_by s g) in
    let r = number_stands s 2 s.degree (n - 2) rest (omega arith) (subst (λ z. rest < trees_with s z) same digits.0) in
    record {
      below = r.0;
      decorated = h;
      tree = r.1 ∙ ap (λ z. tree_by s z (split (bases s z) rest)) (sym same) ∙ ap (tree_by s n) digits.1 ∙ tree_by-digits_by s g small h;
      number = refl;
    }

pub tree_of_decorated : (s : TreeShape) (k : ℕ) → s.degree < 11 → k < tree_count s → is_decorated s (tree_of s k) ≡ true
tree_of_decorated s k small h = (tree_numbered s k small h).decorated

pub tree_of_in_all_trees : (s : TreeShape) (k : ℕ) → s.degree < 11 → k < tree_count s → IsIn (tree_of s k) (all_trees s)
tree_of_in_all_trees s k small h = in_all_trees s (tree_of s k) small (tree_of_decorated s k small h)

pub number_of-tree_of : (s : TreeShape) (k : ℕ) → s.degree < 11 → k < tree_count s → number_of s (tree_of s k) ≡ k
number_of-tree_of s k small h = (tree_numbered s k small h).number

pub number_of_below : (s : TreeShape) (g : DecoratedTree) → s.degree < 11 → is_decorated s g ≡ true → number_of s g < tree_count s
number_of_below s g small h = (number_numbered s g small h).below

pub tree_of-number_of : (s : TreeShape) (g : DecoratedTree) → s.degree < 11 → is_decorated s g ≡ true → tree_of s (number_of s g) ≡ g
tree_of-number_of s g small h = (number_numbered s g small h).tree

-- ---- the trees of all numbers
numbered-push : (s : TreeShape) (first more : ℕ) → numbered_trees s first (suc more) ≡ numbered_trees s first more ++ tree_of s (first + more) ∷ []
numbered-push s first zero = let e : first ≡ first + 0 = omega arith in ap (λ k. tree_of s k ∷ []) e
numbered-push s first (suc more) =
    let e : first + 1 + more ≡ first + suc more = omega arith in
    ap (λ gs. tree_of s first ∷ gs) (numbered-push s (first + 1) more ∙ ap (λ k. numbered_trees s (first + 1) more ++ tree_of s k ∷ []) e)

map-push : {A B : Type 0} (f : A → B) (xs : List A) (x : A) → map f (xs ++ x ∷ []) ≡ map f xs ++ f x ∷ []
map-push f [] x = refl
map-push f (y ∷ xs) x = ap (λ ys. f y ∷ ys) (map-push f xs x)

pub numbered_below : (s : TreeShape) (count : ℕ) → numbered_trees s 0 count ≡ map (tree_of s) (below count)
numbered_below s zero = refl
numbered_below s (suc count) =
    let e : 0 + count ≡ count = omega arith in
    numbered-push s 0 count ∙ ap (λ gs. gs ++ tree_of s (0 + count) ∷ []) (numbered_below s count)
    ∙ ap (λ k. map (tree_of s) (below count) ++ tree_of s k ∷ []) e ∙ sym (map-push (tree_of s) (below count) count)

-- the trees of the numbers from 0 to the count less one are all decorated trees, each once, in another order
pub all_numbered : (s : TreeShape) → s.degree < 11 → IsPermutation (numbered_trees s 0 (tree_count s)) (all_trees s)
all_numbered s small =
    subst (λ gs. IsPermutation gs (all_trees s)) (sym (numbered_below s (tree_count s)))
    (AllTrees.numbered_trees s (tree_count s) (tree_of s) (number_of s) small
    (λ k h. tree_of_decorated s k small h) (λ k h. number_of-tree_of s k small h)
    (λ g h. number_of_below s g small h) (λ g h. tree_of-number_of s g small h))

-- there are as many as the count says
pub length-all_trees : (s : TreeShape) → s.degree < 11 → length (all_trees s) ≡ tree_count s
length-all_trees s small =
    length_permutation (numbered_trees s 0 (tree_count s)) (all_trees s) (all_numbered s small)
    ∙ ap length (numbered_below s (tree_count s)) ∙ length-map (below (tree_count s)) (tree_of s) ∙ length-below (tree_count s)

pub numbers_are_trees : (s : TreeShape) → s.degree < 11 → NumbersAreTrees s
numbers_are_trees s small = record {
  trees = λ k h. (tree_of_in_all_trees s k small h, number_of-tree_of s k small h);
  numbers = λ g i. (number_of_below s g small (is_in_all_trees s g i), tree_of-number_of s g small (is_in_all_trees s g i));
  all = all_numbered s small;
  count = length-all_trees s small;
}
