-- Residues that are listed, none of which is missing, add up to those of partial sums.
use Rattle.std.proofs.Common.{◌≡◌, ℕ, zero, suc, ◌+◌, ◌-◌, ◌%◌, ◌<◌, List, [], ◌∷◌, map, length, sum, replicate, slice_index, get_or, Option, Some, ℤ, sym, ap, ◌∙◌, subst, refl, arith}
use Rattle.std.proofs.lemmas.List.{length-replicate}
use Rattle.std.proofs.lemmas.List.Sums.{sum_by-cons}
use Rattle.arithmetic.specs.Fractions.{IsResidue}
use Rattle.arithmetic.proofs.Residues.{AreResidues, IsResidue-sum}
use Rattle.arithmetic.proofs.Residues.AreResidues.{none, one}
use Rattle.lists.specs.Ranges.{counted_from}
use Rattle.trees.specs.Decorated.{TreeShape}
use Rattle.trees.specs.TreeNumbers.{tree_of, numbered_trees}
use Rattle.classes.specs.declared.class.Term.{Term}
use Rattle.decorated_tree.proofs.Counts.{limits}
use Rattle.localisation.specs.Contribution.{contribution, partial_sum, kontsevich_sum, sum_over}
use Rattle.localisation.proofs.AllNumbers.{residue_of_all}
use Rattle.problem.specs.Rules.{ProblemView, KeepsRules}
use Rattle.problem.specs.Sums.{count_of}
use Rattle.tree_listing.specs.Residues.{residue_of}
use Rattle.sum_job.specs.Parts.{block_count}
use Rattle.tree_listing.specs.Ranges.{AreListed, AddUp, ShareBlocks}
use Rattle.tree_listing.proofs.Residues.{is_residue}

listed_residues : (ws : List ℤ) (s : TreeShape) (terms : List Term) (m first n : ℕ) (xs : List ℕ)
    → map (λ k. residue_of m (contribution ws terms (tree_of s k))) (counted_from first n) ≡ map Some xs
    → AreResidues m (map (contribution ws terms) (numbered_trees s first n)) xs
listed_residues ws s terms m first zero [] e = none
listed_residues ws s terms m first zero (x ∷ xs) e = absurd (let bad : ⊥ = cc in bad)
listed_residues ws s terms m first (suc n) [] e = absurd (let bad : ⊥ = cc in bad)
listed_residues ws s terms m first (suc n) (x ∷ xs) e =
    let here : residue_of m (contribution ws terms (tree_of s first)) ≡ Some x = cc in
    let rest : map (λ k. residue_of m (contribution ws terms (tree_of s k))) (counted_from (suc first) n) ≡ map Some xs = cc in
    let next : suc first ≡ first + 1 = omega arith in
    one (is_residue m _ x here)
    (subst (λ k. AreResidues m (map (contribution ws terms) (numbered_trees s k n)) xs) next
    (listed_residues ws s terms m (suc first) n xs rest))

pub adds_up : (p : ProblemView) (low high : ℕ) → KeepsRules p → AddUp p low high
unfolding partial_sum
adds_up p low high rules = record { partial = partial; whole = whole }
  where
    above : (j : ℕ) → j < length p.moduli → 1 < slice_index p.moduli j
    above j below = let l = (rules.moduli.each j 0 below).at_least_3 in omega arith

    partial : (i j : ℕ) (xs : List ℕ) → i < length p.integrals → j < length p.moduli
        → AreListed p low high i (slice_index p.moduli j) xs
        → IsResidue (slice_index p.moduli j) (partial_sum p.weights p.shape low high (get_or p.integrals i [])) (sum xs % slice_index p.moduli j)
    partial i j xs within below e =
        IsResidue-sum (slice_index p.moduli j) _ xs (above j below)
        (listed_residues p.weights p.shape (get_or p.integrals i []) (slice_index p.moduli j) low (high - low) xs e)

    whole : low ≡ 0 → high ≡ count_of p → (i j : ℕ) (xs : List ℕ) → i < length p.integrals → j < length p.moduli
        → AreListed p low high i (slice_index p.moduli j) xs
        → IsResidue (slice_index p.moduli j) (kontsevich_sum p.weights p.shape (get_or p.integrals i [])) (sum xs % slice_index p.moduli j)
    whole from to i j xs within below e =
        let l = limits p.shape.rank p.shape.degree p.shape.marks rules.shape in
        let degree = l.most_degree in
        residue_of_all p.weights p.shape (get_or p.integrals i []) (slice_index p.moduli j) _ (omega arith)
        (subst (λ a. IsResidue (slice_index p.moduli j) (partial_sum p.weights p.shape a (count_of p) (get_or p.integrals i [])) (sum xs % slice_index p.moduli j)) from
        (subst (λ b. IsResidue (slice_index p.moduli j) (partial_sum p.weights p.shape low b (get_or p.integrals i [])) (sum xs % slice_index p.moduli j)) to
        (partial i j xs within below e)))

-- ---- shares that were 0 before a round
none_before : (n : ℕ) → 0 + n ≡ n
none_before n = omega arith

sum_of_zeros : (n : ℕ) → sum (replicate n 0) ≡ 0
sum_of_zeros zero = refl
sum_of_zeros (suc n) = sum_by-cons (λ z. z) 0 (replicate n 0) ∙ none_before (sum (replicate n 0)) ∙ sum_of_zeros n

pub blocks_shared : (low high workers : ℕ) (before shares : List ℕ) → before ≡ replicate workers 0 → length shares ≡ length before
    → sum shares ≡ sum before + block_count low high → ShareBlocks low high workers shares
blocks_shared low high workers before shares zeros many grew = record {
  workers_are = many ∙ ap length zeros ∙ length-replicate workers 0;
  blocks_are = grew ∙ ap (λ xs. sum xs + block_count low high) zeros ∙ ap (λ n. n + block_count low high) (sum_of_zeros workers)
      ∙ none_before (block_count low high);
}
