-- A sum of fractions has no residue if one of its terms has none. So no tree is bad that went into true residues.
use Rattle.std.proofs.Common.{◌≡◌, ℕ, ◌+◌, ◌<◌, ◌≤◌, inl, inr, ℤ, List, refl, sym, ◌∙◌, subst, arith, nat_abs, []}
use Rattle.arithmetic.specs.Numbers.{gcd}
use Rattle.arithmetic.proofs.Residues.{unit_first, unit_second}
use Rattle.trees.specs.Decorated.{TreeShape}
use Rattle.trees.specs.TreeNumbers.{tree_of}
use Rattle.classes.specs.declared.class.Term.{Term}
use Rattle.localisation.specs.Contribution.{contribution, partial_sum}
use Rattle.localisation.specs.Agreement.{NoneBad, modulus_at, integral_at}
use Rattle.localisation.proofs.PartialSums.{partial_sum-cut, partial_sum-next}
use Rattle.problem.specs.Rules.{KeepsRules}
use Rattle.problem.specs.Sums.{is_bad_of}
use Rattle.problem.proofs.ProblemLaws.{modulus_above}
use Rattle.range_sum.proofs.BadTrees.{has_unit, nowhere_bad, is_bad_at}
use Rattle.checkpoint.proofs.FirstStates.{first_is_true}
use Rattle.rounds.specs.Outcomes.{SumView, IsTrueSum}
use Rattle.locus_core.specs.Begins.{Beginning, IsTrueBeginning}

-- if a partial sum has a residue, so has the contribution of each of its trees
unit_within : (m : ℕ) (ws : List ℤ) (s : TreeShape) (terms : List Term) (lo k hi : ℕ) → 1 < m → lo ≤ k → k < hi
    → gcd (nat_abs (partial_sum ws s lo hi terms).bottom) m ≡ 1 → gcd (nat_abs (contribution ws terms (tree_of s k)).bottom) m ≡ 1
unit_within m ws s terms lo k hi above from below unit =
    let tail : gcd (nat_abs (partial_sum ws s k hi terms).bottom) m ≡ 1 =
    unit_second m (partial_sum ws s lo k terms).bottom (partial_sum ws s k hi terms).bottom above
    (subst (λ f. gcd (nat_abs f.bottom) m ≡ 1) (partial_sum-cut ws s lo k hi terms from (omega arith)) unit) in
    let one : gcd (nat_abs (partial_sum ws s k (k + 1) terms).bottom) m ≡ 1 =
    unit_first m (partial_sum ws s k (k + 1) terms).bottom (partial_sum ws s (k + 1) hi terms).bottom above
    (subst (λ f. gcd (nat_abs f.bottom) m ≡ 1) (partial_sum-cut ws s k (k + 1) hi terms (omega arith) (omega arith)) tail) in
    unit_second m (partial_sum ws s k k terms).bottom (contribution ws terms (tree_of s k)).bottom above
    (subst (λ f. gcd (nat_abs f.bottom) m ≡ 1) (partial_sum-next ws s k k terms (omega arith)) one)

-- if the residues so far are true, no number before the next one is bad
pub none_bad_before : (s : SumView) → KeepsRules s.problem → IsTrueSum s → NoneBad (is_bad_of s.problem) 0 s.next
none_bad_before s rules truth k from below bad =
    let p = s.problem in
    nowhere_bad p.weights p.integrals p.moduli (tree_of p.shape k)
    (λ place within.
    let m = modulus_at p.moduli place in
    let terms = integral_at p.moduli p.integrals place in
    let at = truth.each place within in
    has_unit m (contribution p.weights terms (tree_of p.shape k))
    (unit_within m p.weights p.shape terms 0 k s.next (modulus_above p rules place) from below at.unit))
    (is_bad_at p.weights p.integrals p.moduli p.shape k (tree_of p.shape k) refl ∙ bad)

-- a sum that is begun anew is true, too
pub true_at : (b : Beginning) → KeepsRules b.sum.problem → IsTrueBeginning b → IsTrueSum b.sum
true_at b rules (inl fresh) = subst IsTrueSum (sym fresh) (first_is_true [] b.sum.problem rules)
true_at b rules (inr true_sum) = true_sum
