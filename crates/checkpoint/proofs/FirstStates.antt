-- The first state of a problem is true: no tree is summed, and each residue is 0.
use Rattle.std.proofs.Common.{◌≡◌, ℕ, ◌<◌, ◌≤◌, List, length, replicate, pos, sym, subst, arith}
use Rattle.std.specs.Prelude.{slice_index}
use Rattle.std.proofs.lemmas.List.{length-replicate}
use Rattle.arithmetic.specs.Fractions.{fraction, IsResidue}
use Rattle.arithmetic.proofs.Residues.{residue_of_zero}
use Rattle.localisation.specs.Agreement.{modulus_at, integral_at}
use Rattle.localisation.proofs.PartialSums.{partial_sum-none}
use Rattle.problem.specs.Rules.{ProblemView, KeepsRules}
use Rattle.problem.specs.Sums.{places_of}
use Rattle.problem.proofs.ProblemLaws.{modulus_above}
use Rattle.checkpoint.specs.States.{StateView, IsTrueState, first_state}
use Rattle.lists.proofs.Padding.{zeros}

at_least : (n k : ℕ) → k ≡ n → n ≤ k
at_least n k e = omega arith

pub first_is_true : (source : List ℕ) (p : ProblemView) → KeepsRules p → IsTrueState (first_state source p)
first_is_true source p rules = record {
  as_many = at_least (places_of p) (length (replicate (places_of p) 0)) (length-replicate (places_of p) 0);
  each = λ place h.
      let m = modulus_at p.moduli place in
      let above : 1 < m = modulus_above p rules place in
      let r : IsResidue m (fraction (pos 0) (pos 1)) 0 = residue_of_zero m above in
      subst (λ f. IsResidue m f (slice_index (replicate (places_of p) 0) place))
      (sym (partial_sum-none p.weights p.shape 0 (integral_at p.moduli p.integrals place)))
      (subst (λ x. IsResidue m (fraction (pos 0) (pos 1)) x) (sym (zeros (places_of p) place)) r);
}

pub true_along : (source : List ℕ) (p : ProblemView) (s : StateView) → KeepsRules p → s ≡ first_state source p
    → IsTrueState s
true_along source p s rules is = subst IsTrueState (sym is) (first_is_true source p rules)
