-- The sum over all numbers is Kontsevich's sum, and a number is bad exactly if its decorated tree is bad.
use Rattle.std.proofs.Common.{◌≡◌, ◌≢◌, ℕ, ◌-◌, ◌<◌, ⊎_elim, Bool, true, ◌||◌, List, [], ◌∷◌, map, ℤ, refl, sym, ap, ◌∙◌, subst, arith}
use Rattle.std.specs.List.{list_any}
use Rattle.std.proofs.lemmas.Bool.{cases_lt}
use Rattle.std.proofs.lemmas.List.Sorted.{IsPermutation-map, list_any-IsPermutation}
use Rattle.arithmetic.specs.Fractions.{IsResidue}
use Rattle.arithmetic.proofs.FractionOrders.{sum_of_fractions-IsPermutation}
use Rattle.classes.specs.declared.class.Term.{Term}
use Rattle.lists.specs.Ranges.{below}
use Rattle.trees.specs.Decorated.{DecoratedTree, TreeShape, all_trees}
use Rattle.lists.specs.Members.{IsIn}
use Rattle.trees.specs.TreeNumbers.{tree_count, tree_of, number_of, numbered_trees}
use Rattle.trees.proofs.AllTrees.{is_in_all_trees}
use Rattle.trees.proofs.TreeNumbers.{all_numbered, numbered_below, tree_of_in_all_trees, number_of_below, tree_of-number_of}
use Rattle.localisation.specs.Contribution.{contribution, sum_over, kontsevich_sum, partial_sum}
use Rattle.localisation.specs.Agreement.{is_bad_tree, is_bad_number, NoneBad, AreResiduesOf}

-- ---- sums
-- the partial sum over all numbers and Kontsevich's sum are the same fraction, also before it is reduced
pub partial_sum-all : (ws : List ℤ) (s : TreeShape) (terms : List Term) → s.degree < 11 → partial_sum ws s 0 (tree_count s) terms ≡ kontsevich_sum ws s terms
unfolding partial_sum kontsevich_sum
partial_sum-all ws s terms small =
    let count : tree_count s - 0 ≡ tree_count s = omega arith in
    ap (λ n. sum_over ws terms (numbered_trees s 0 n)) count
    ∙ sym (sum_of_fractions-IsPermutation (map (contribution ws terms) (numbered_trees s 0 (tree_count s))) (map (contribution ws terms) (all_trees s))
    (IsPermutation-map (contribution ws terms) (numbered_trees s 0 (tree_count s)) (all_trees s) (all_numbered s small)))

-- so they have the same residues
pub residue_of_all : (ws : List ℤ) (s : TreeShape) (terms : List Term) (m x : ℕ) → s.degree < 11
    → IsResidue m (partial_sum ws s 0 (tree_count s) terms) x → IsResidue m (kontsevich_sum ws s terms) x
residue_of_all ws s terms m x small h = subst (λ f. IsResidue m f x) (partial_sum-all ws s terms small) h

-- residues of all integrals modulo all moduli, index by index
pub residues_of_all : (ws : List ℤ) (s : TreeShape) (ms : List ℕ) (integrals : List (List Term)) (xs : List ℕ) → s.degree < 11
    → AreResiduesOf ms integrals (partial_sum ws s 0 (tree_count s)) xs → AreResiduesOf ms integrals (kontsevich_sum ws s) xs
residues_of_all ws s ms integrals xs small h = record { as_many = h.as_many; each = λ place k. residue_of_all ws s _ _ _ small (h.each place k) }

-- ---- bad numbers and bad trees
-- the tree of a bad number is a decorated tree that is bad
pub bad_tree_of : (ws : List ℤ) (integrals : List (List Term)) (ms : List ℕ) (s : TreeShape) (k : ℕ) → s.degree < 11 → k < tree_count s
    → is_bad_number ws integrals ms s k ≡ true → IsIn (tree_of s k) (all_trees s) × (is_bad_tree ws integrals ms (tree_of s k) ≡ true)
unfolding is_bad_number
bad_tree_of ws integrals ms s k small h bad = (tree_of_in_all_trees s k small h, bad)

-- the number of a decorated tree that is bad is bad
pub bad_number_of : (ws : List ℤ) (integrals : List (List Term)) (ms : List ℕ) (s : TreeShape) (g : DecoratedTree) → s.degree < 11 → IsIn g (all_trees s)
    → is_bad_tree ws integrals ms g ≡ true → (number_of s g < tree_count s) × (is_bad_number ws integrals ms s (number_of s g) ≡ true)
unfolding is_bad_number
bad_number_of ws integrals ms s g small i bad =
    let d = is_in_all_trees s g i in
    (number_of_below s g small d, ap (is_bad_tree ws integrals ms) (tree_of-number_of s g small d) ∙ bad)

-- no number below the count is bad exactly if no decorated tree is bad
pub none_bad_trees : (ws : List ℤ) (integrals : List (List Term)) (ms : List ℕ) (s : TreeShape) → s.degree < 11
    → NoneBad (is_bad_number ws integrals ms s) 0 (tree_count s) → (g : DecoratedTree) → IsIn g (all_trees s) → is_bad_tree ws integrals ms g ≢ true
none_bad_trees ws integrals ms s small h g i bad = let n = bad_number_of ws integrals ms s g small i bad in h (number_of s g) (omega arith) n.0 n.1

any-map : {A B : Type 0} (p : B → Bool) (f : A → B) (xs : List A) → list_any p (map f xs) ≡ list_any (λ x. p (f x)) xs
any-map p f [] = refl
any-map p f (x ∷ xs) = ap (λ (b : Bool). p (f x) || b) (any-map p f xs)

-- some number below the count is bad exactly if some decorated tree is bad
pub some_bad : (ws : List ℤ) (integrals : List (List Term)) (ms : List ℕ) (s : TreeShape) → s.degree < 11
    → list_any (is_bad_number ws integrals ms s) (below (tree_count s)) ≡ list_any (is_bad_tree ws integrals ms) (all_trees s)
unfolding is_bad_number
some_bad ws integrals ms s small =
    sym (any-map (is_bad_tree ws integrals ms) (tree_of s) (below (tree_count s)))
    ∙ ap (list_any (is_bad_tree ws integrals ms)) (sym (numbered_below s (tree_count s)))
    ∙ list_any-IsPermutation (is_bad_tree ws integrals ms) (numbered_trees s 0 (tree_count s)) (all_trees s) (all_numbered s small)

-- no bad number in two ranges one after the other
pub none_append : (bad : ℕ → Bool) (first start stop : ℕ) → NoneBad bad first start → NoneBad bad start stop → NoneBad bad first stop
none_append bad first start stop before after j from below e =
    ⊎_elim (λ earlier. before j from earlier e) (λ later. after j later below e) (cases_lt j start)
