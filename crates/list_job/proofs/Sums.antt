-- The residues of all entries add up to those of the partial sums.
use Rattle.std.proofs.Common.{◌≡◌, ◌≢◌, ℕ, suc, ◌+◌, ◌-◌, ◌%◌, ◌<◌, List, [], ◌∷◌, length, map, sum_by, slice_index_or, All, subst, arith}
use Rattle.std.proofs.lemmas.List.Sums.{sum-map}
use Rattle.std.proofs.lemmas.List.Elements.{All-head, All-tail}
use Rattle.arithmetic.specs.Fractions.{IsResidue}
use Rattle.arithmetic.proofs.Residues.{AreResidues, IsResidue-sum}
use Rattle.arithmetic.proofs.Residues.AreResidues.{none, one}
use Rattle.trees.specs.TreeNumbers.{tree_of, numbered_trees}
use Rattle.localisation.specs.Contribution.{contribution, partial_sum, sum_over}
use Rattle.localisation.specs.Agreement.{modulus_at, integral_at}
use Rattle.problem.specs.Rules.{ProblemView, KeepsRules}
use Rattle.problem.specs.Sums.{places_of}
use Rattle.problem.proofs.ProblemLaws.{modulus_above}
use Rattle.list_job.specs.declared.entry.Entry.{Entry}
use Rattle.list_job.specs.Entries.{no_residue, IsEntryOf}
use Rattle.list_job.specs.Listings.{AreEntries, value_at, SumToPartialSums}

residues_of_entries : (p : ProblemView) (first place : ℕ) (entries : List Entry) → place < places_of p
    → ((i : ℕ) (d : Entry) → i < length entries → IsEntryOf p (first + i) (slice_index_or entries i d))
    → All (λ e. value_at place e ≢ no_residue) entries
    → AreResidues (modulus_at p.moduli place)
    (map (contribution p.weights (integral_at p.moduli p.integrals place)) (numbered_trees p.shape first (length entries)))
    (map (value_at place) entries)
residues_of_entries p first place [] within each there = none
residues_of_entries p first place (e ∷ entries) within each there =
    one
    (subst (λ k. IsResidue (modulus_at p.moduli place) (contribution p.weights (integral_at p.moduli p.integrals place) (tree_of p.shape k)) (value_at place e))
    (let l : first + 0 ≡ first = omega arith in l)
    (((each 0 e (omega arith)).values place within).residue (All-head (λ (x : Entry). value_at place x ≢ no_residue) e entries there)))
    (residues_of_entries p (first + 1) place entries within
    (λ i d lt. subst (λ k. IsEntryOf p k (slice_index_or entries i d)) (let l : first + suc i ≡ first + 1 + i = omega arith in l) (each (suc i) d (omega arith)))
    (All-tail (λ (x : Entry). value_at place x ≢ no_residue) e entries there))

pub entries_sum : (p : ProblemView) (first end : ℕ) (entries : List Entry) → KeepsRules p → AreEntries p first end entries
    → SumToPartialSums p first end entries
unfolding partial_sum
entries_sum p first end entries rules are place within there =
    let m = modulus_at p.moduli place in
    let terms = integral_at p.moduli p.integrals place in
    let many = are.as_many in
    subst (λ n. IsResidue m (sum_over p.weights terms (numbered_trees p.shape first n)) (sum_by (value_at place) entries % m))
    (let l : length entries ≡ end - first = omega arith in l)
    (subst (λ n. IsResidue m (sum_over p.weights terms (numbered_trees p.shape first (length entries))) (n % m))
    (sum-map (value_at place) entries)
    (IsResidue-sum m (map (contribution p.weights terms) (numbered_trees p.shape first (length entries))) (map (value_at place) entries)
    (modulus_above p rules place)
    (residues_of_entries p first place entries within are.each there)))
