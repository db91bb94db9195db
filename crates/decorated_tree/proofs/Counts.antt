-- How many trees there are with so many vertices, one number after the other.
use Rattle.std.proofs.Common.{◌≡◌, ℕ, zero, suc, ◌+◌, ◌-◌, ◌<◌, ◌≤◌, true, List, [], ◌∷◌, ◌++◌, length, replicate, refl, sym, ap, ◌∙◌, subst, arith, mul-pos, Option, Some, None, IsSome, IsNone}
use Rattle.std.proofs.lemmas.Bool.Decides.{nat_tests}
use Rattle.trees.specs.Decorated.{TreeShape}
use Rattle.lists.specs.Digits.{product_of}
use Rattle.lists.specs.Binomials.{choose}
use Rattle.trees.specs.TreeNumbers.{bases, trees_with, trees_from, tree_count}
use Rattle.decorated_tree.specs.Shapes.{shape_of, within_limits, counts_from, counts_of}

-- ---- limits
pub record Limits (r d m : ℕ) : Type 0 where
  pub least_rank : 1 ≤ r
  pub most_rank : r ≤ 12
  pub least_degree : 1 ≤ d
  pub most_degree : d ≤ 10
  pub most_marks : m ≤ 12

pub limits : (r d m : ℕ) → within_limits (shape_of r d m) ≡ true → Limits r d m
limits r d m h = record {
  least_rank = grind (arith, nat_tests);
  most_rank = grind (arith, nat_tests);
  least_degree = grind (arith, nat_tests);
  most_degree = grind (arith, nat_tests);
  most_marks = grind (arith, nat_tests);
}

-- ---- each base is positive
abbrev AllPositive : List ℕ → Type 0
AllPositive [] = Unit {0}
AllPositive (x ∷ xs) = (0 < x) × AllPositive xs

positive_append : (xs ys : List ℕ) → AllPositive xs → AllPositive ys → AllPositive (xs ++ ys)
positive_append [] ys h k = k
positive_append (x ∷ xs) ys h k = (h.0, positive_append xs ys h.1 k)

positive_replicate : (k x : ℕ) → 0 < x → AllPositive (replicate k x)
positive_replicate zero x h = tt
positive_replicate (suc k) x h = (h, positive_replicate k x h)

product_positive : (xs : List ℕ) → AllPositive xs → 0 < product_of xs
product_positive [] h = omega arith
product_positive (x ∷ xs) h = mul-pos h.0 (product_positive xs h.1)

pub choose_positive : (n k : ℕ) → k ≤ n → 0 < choose n k
choose_positive zero zero h = omega arith
choose_positive (suc n) zero h = omega arith
choose_positive zero (suc k) h = absurd (omega arith)
choose_positive (suc n) (suc k) h = let p = choose_positive n k (omega arith) in omega arith

pub some_trees : (r d m n : ℕ) → 1 ≤ r → 2 ≤ n → n ≤ d + 1 → 0 < trees_with (shape_of r d m) n
some_trees r d m n h least most =
    let some : 0 < n = omega arith in
    let more : 0 < r + 1 = omega arith in
    let lists : 0 < choose (d - 1) (n - 2) = choose_positive (d - 1) (n - 2) (omega arith) in
    product_positive (bases (shape_of r d m) n)
    (positive_append (replicate (n - 2) n ++ (r + 1) ∷ [] ++ replicate (n - 1) r ++ choose (d - 1) (n - 2) ∷ []) (replicate m n)
    (positive_append (replicate (n - 2) n ++ (r + 1) ∷ [] ++ replicate (n - 1) r) (choose (d - 1) (n - 2) ∷ [])
    (positive_append (replicate (n - 2) n ++ (r + 1) ∷ []) (replicate (n - 1) r)
    (positive_append (replicate (n - 2) n) ((r + 1) ∷ []) (positive_replicate (n - 2) n some) (more, tt))
    (positive_replicate (n - 1) r h)) (lists, tt)) (positive_replicate m n some))

-- ---- one more number of vertices
counts_push : (s : TreeShape) (n k : ℕ) → counts_from s n (suc k) ≡ counts_from s n k ++ trees_with s (n + k) ∷ []
counts_push s n zero = let e : n ≡ n + 0 = omega arith in ap (λ z. trees_with s z ∷ []) e
counts_push s n (suc k) =
    let e : n + 1 + k ≡ n + suc k = omega arith in
    ap (λ l. trees_with s n ∷ l) (counts_push s (n + 1) k ∙ ap (λ z. counts_from s (n + 1) k ++ trees_with s z ∷ []) e)

pub total_push : (s : TreeShape) (n k : ℕ) → trees_from s n (suc k) ≡ trees_from s n k + trees_with s (n + k)
total_push s n zero =
    let e : n ≡ n + 0 = omega arith in plus (trees_with s n) (trees_with s (n + 0)) (ap (λ z. trees_with s z) e)
  where
    plus : (a b : ℕ) → a ≡ b → a + 0 ≡ 0 + b
    plus a b e = omega arith
total_push s n (suc k) =
    let e : n + 1 + k ≡ n + suc k = omega arith in
    plus (trees_with s n) _ (trees_from s (n + 1) k) (trees_with s (n + suc k))
    (total_push s (n + 1) k ∙ ap (λ z. trees_from s (n + 1) k + trees_with s z) e)
  where
    plus : (a b c e : ℕ) → b ≡ c + e → a + b ≡ a + c + e
    plus a b c e h = omega arith

pub length-counts : (s : TreeShape) (n k : ℕ) → length (counts_from s n k) ≡ k
length-counts s n zero = refl
length-counts s n (suc k) = ap suc (length-counts s (n + 1) k)

total_more : (s : TreeShape) (n k more : ℕ) → trees_from s n k ≤ trees_from s n (k + more)
total_more s n k zero =
    let e : k ≡ k + 0 = omega arith in subst (λ z. trees_from s n k ≤ trees_from s n z) e (omega arith)
total_more s n k (suc more) =
    let e : suc (k + more) ≡ k + suc more = omega arith in
    subst (λ z. trees_from s n k ≤ trees_from s n z) e
    (plus _ (trees_from s n (k + more)) (trees_with s (n + (k + more))) _ (total_push s n (k + more)) (total_more s n k more))
  where
    plus : (a b c e : ℕ) → e ≡ b + c → a ≤ b → a ≤ e
    plus a b c e h k = omega arith

pub total_within : (s : TreeShape) (n k most : ℕ) → k ≤ most → trees_from s n k ≤ trees_from s n most
total_within s n k most h =
    let e : k + (most - k) ≡ most = omega arith in
    subst (λ z. trees_from s n k ≤ trees_from s n z) e (total_more s n k (most - k))

-- ---- the counts of a shape, as far as the trees with fewer than n vertices
pub record AreCounted (s : TreeShape) (n : ℕ) (sizes : List ℕ) (count : ℕ) : Type 0 where
  pub counts : sizes ≡ counts_from s 2 (n - 2)
  pub total : count ≡ trees_from s 2 (n - 2)
  pub limited : count ≤ 1099511627776

pub counted_push : (s : TreeShape) (n : ℕ) (counts : List ℕ) (count size : ℕ) → 2 ≤ n → size ≡ trees_with s n
    → count + size ≤ 1099511627776
    → AreCounted s n counts count → AreCounted s (n + 1) (counts ++ size ∷ []) (count + size)
counted_push s n counts count size least is limited c =
    let next : suc (n - 2) ≡ n + 1 - 2 = omega arith in
    let here : 2 + (n - 2) ≡ n = omega arith in
    let with : trees_with s (2 + (n - 2)) ≡ size = ap (trees_with s) here ∙ sym is in
    record {
      counts = ap (λ l. l ++ size ∷ []) c.counts ∙ ap (λ z. counts_from s 2 (n - 2) ++ z ∷ []) (sym with)
          ∙ sym (counts_push s 2 (n - 2)) ∙ ap (counts_from s 2) next;
      total = ap (λ z. z + size) c.total ∙ ap (λ z. trees_from s 2 (n - 2) + z) (sym with)
          ∙ sym (total_push s 2 (n - 2)) ∙ ap (trees_from s 2) next;
      limited = limited;
    }

-- the trees with n vertices are more than the limit alone, or with those before them
pub too_many : (s : TreeShape) (n : ℕ) (counts : List ℕ) (count : ℕ) → 2 ≤ n → n < s.degree + 2
    → 1099511627776 < count + trees_with s n
    → AreCounted s n counts count → 1099511627776 < tree_count s
unfolding tree_count
too_many s n counts count least most h c =
    let here : 2 + (n - 2) ≡ n = omega arith in
    let push = total_push s 2 (n - 2) ∙ ap (λ z. trees_from s 2 (n - 2) + trees_with s z) here in
    plus _ _ (trees_from s 2 (n - 2)) (trees_with s n) count push c.total h
    (total_within s 2 (suc (n - 2)) s.degree (omega arith))
  where
    plus : (a b t w k : ℕ) → a ≡ t + w → k ≡ t → 1099511627776 < k + w → a ≤ b → 1099511627776 < b
    plus a b t w k e f h l = omega arith

pub counted_all : (s : TreeShape) (n : ℕ) (counts : List ℕ) (count : ℕ) → n ≡ s.degree + 2 → AreCounted s n counts count
    → (counts ≡ counts_of s) × (count ≡ tree_count s) × (tree_count s ≤ 1099511627776)
unfolding counts_of tree_count
counted_all s n counts count e c =
    let all : n - 2 ≡ s.degree = omega arith in
    let total : count ≡ trees_from s 2 s.degree = c.total ∙ ap (trees_from s 2) all in
    (c.counts ∙ ap (counts_from s 2) all, total, subst (λ z. z ≤ 1099511627776) total c.limited)

pub with_within : (s : TreeShape) (n : ℕ) → 2 ≤ n → n ≤ s.degree + 1 → trees_with s n ≤ tree_count s
unfolding tree_count
with_within s n least most =
    let here : 2 + (n - 2) ≡ n = omega arith in
    let push = total_push s 2 (n - 2) ∙ ap (λ z. trees_from s 2 (n - 2) + trees_with s z) here in
    plus _ _ (trees_from s 2 (n - 2)) (trees_with s n) push (total_within s 2 (suc (n - 2)) s.degree (omega arith))
  where
    plus : (a b t w : ℕ) → a ≡ t + w → a ≤ b → w ≤ b
    plus a b t w e l = omega arith

pub is_there : (o : Option (List ℕ)) → (IsNone o → ⊥) → IsSome o
is_there (Some x) h = refl
is_there None h = absurd (h refl)
