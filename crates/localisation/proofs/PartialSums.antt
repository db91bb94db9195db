-- Partial sums over numbers may be cut anywhere.
use Rattle.std.proofs.Common.{◌≡◌, ℕ, zero, suc, ◌+◌, ◌-◌, ◌≤◌, List, [], ◌∷◌, ◌++◌, map, ℤ, ap, ap₂, ◌∙◌, arith}
use Rattle.std.proofs.lemmas.List.{map-append}
use Rattle.arithmetic.specs.Fractions.{plus, sum_of_fractions}
use Rattle.arithmetic.proofs.FractionSums.{plus-zero, sum_of_fractions-append}
use Rattle.classes.specs.declared.class.Term.{Term}
use Rattle.trees.specs.Decorated.{DecoratedTree, TreeShape}
use Rattle.trees.specs.TreeNumbers.{tree_of, numbered_trees}
use Rattle.localisation.specs.Contribution.{contribution, sum_over, partial_sum}

pub numbered_trees-append : (s : TreeShape) (first a b : ℕ) → numbered_trees s first (a + b) ≡ numbered_trees s first a ++ numbered_trees s (first + a) b
numbered_trees-append s first zero b = ap₂ (numbered_trees s) (let l : first ≡ first + 0 = omega arith in l) (let l : 0 + b ≡ b = omega arith in l)
numbered_trees-append s first (suc a) b =
    ap (numbered_trees s first) (let l : suc a + b ≡ suc (a + b) = omega arith in l)
    ∙ ap (λ gs. tree_of s first ∷ gs) (numbered_trees-append s (first + 1) a b
    ∙ ap (λ n. numbered_trees s (first + 1) a ++ numbered_trees s n b) (let l : first + 1 + a ≡ first + suc a = omega arith in l))

sum_over-append : (ws : List ℤ) (terms : List Term) (gs hs : List DecoratedTree) → sum_over ws terms (gs ++ hs) ≡ plus (sum_over ws terms gs) (sum_over ws terms hs)
sum_over-append ws terms gs hs =
    ap sum_of_fractions (map-append (contribution ws terms) gs hs)
    ∙ sum_of_fractions-append (map (contribution ws terms) gs) (map (contribution ws terms) hs)

pub partial_sum-cut : (ws : List ℤ) (s : TreeShape) (lo mid hi : ℕ) (terms : List Term) → lo ≤ mid → mid ≤ hi
    → partial_sum ws s lo hi terms ≡ plus (partial_sum ws s lo mid terms) (partial_sum ws s mid hi terms)
unfolding partial_sum
partial_sum-cut ws s lo mid hi terms h k =
    ap (sum_over ws terms) (ap (numbered_trees s lo) (let l : hi - lo ≡ (mid - lo) + (hi - mid) = omega arith in l)
    ∙ numbered_trees-append s lo (mid - lo) (hi - mid)
    ∙ ap (λ n. numbered_trees s lo (mid - lo) ++ numbered_trees s n (hi - mid)) (let l : lo + (mid - lo) ≡ mid = omega arith in l))
    ∙ sum_over-append ws terms (numbered_trees s lo (mid - lo)) (numbered_trees s mid (hi - mid))

-- one more number
pub partial_sum-next : (ws : List ℤ) (s : TreeShape) (lo k : ℕ) (terms : List Term) → lo ≤ k
    → partial_sum ws s lo (k + 1) terms ≡ plus (partial_sum ws s lo k terms) (contribution ws terms (tree_of s k))
unfolding partial_sum
partial_sum-next ws s lo k terms h =
    partial_sum-cut ws s lo k (k + 1) terms h (omega arith)
    ∙ ap (λ f. plus (partial_sum ws s lo k terms) f)
    (ap (λ n. sum_over ws terms (numbered_trees s k n)) (let l : k + 1 - k ≡ 1 = omega arith in l)
    ∙ plus-zero (contribution ws terms (tree_of s k)))

-- no numbers
pub partial_sum-none : (ws : List ℤ) (s : TreeShape) (lo : ℕ) (terms : List Term) → partial_sum ws s lo lo terms ≡ sum_of_fractions []
unfolding partial_sum
partial_sum-none ws s lo terms = ap (λ n. sum_over ws terms (numbered_trees s lo n)) (let l : lo - lo ≡ 0 = omega arith in l)
