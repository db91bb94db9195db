-- Sums over consecutive numbers, one after the other.
use Rattle.std.proofs.Common.{◌≡◌, ℕ, ◌+◌, ◌%◌, ◌<◌, ◌≤◌, List, slice_index, sym, ap, ◌∙◌, subst, arith}
use Rattle.std.proofs.Math.Nat.{add-mod-mod, mod-eq_of_lt}
use Rattle.arithmetic.specs.Fractions.{plus, IsResidue}
use Rattle.arithmetic.proofs.Residues.{IsResidue-plus, residue_of_zero}
use Rattle.localisation.specs.Contribution.{partial_sum}
use Rattle.localisation.specs.Agreement.{modulus_at, integral_at, NoneBad}
use Rattle.localisation.proofs.AllNumbers.{none_append}
use Rattle.localisation.proofs.PartialSums.{partial_sum-cut, partial_sum-none}
use Rattle.problem.specs.Rules.{KeepsRules}
use Rattle.problem.specs.Sums.{is_bad_of, ArePartialSums}
use Rattle.problem.proofs.ProblemLaws.{modulus_above}
use Rattle.checkpoint.specs.States.{AreResidues}
use Rattle.sum_job.specs.Parts.{GrewByNumbers}
use Rattle.rounds.specs.Outcomes.{SumView, IsSummed, IsTrueSum}
use Rattle.rounds.proofs.RoundLaws.{residues_reduced}

-- no number
pub nothing_summed : (s : SumView) → KeepsRules s.problem → AreResidues s.problem s.residues
    → IsSummed s s.next s.residues
nothing_summed s rules residues = record {
  none_bad = λ j from below e. absurd (omega arith);
  are_residues = residues;
  grew = λ place within.
      let m = modulus_at s.problem.moduli place in
      let above = modulus_above s.problem rules place in
      let less : slice_index s.residues place < m = residues_reduced s.problem s.residues residues place within in
      record {
        value = 0;
        is_residue = subst (λ f. IsResidue m f 0)
            (sym (partial_sum-none s.problem.weights s.problem.shape s.next (integral_at s.problem.moduli s.problem.integrals place))) (residue_of_zero m above);
        sum = sym
            (ap (λ n. n % m) (let l : slice_index s.residues place + 0 ≡ slice_index s.residues place = omega arith in l) ∙ mod-eq_of_lt less);
      };
}

grew_twice : (m old mid new v w : ℕ) → mid ≡ (old + v) % m → new ≡ (mid + w) % m → new ≡ (old + (v + w) % m) % m
grew_twice m old mid new v w e f =
    f ∙ ap (λ n. (n + w) % m) e
    ∙ ap (λ n. n % m) (let l : (old + v) % m + w ≡ w + (old + v) % m = omega arith in l)
    ∙ add-mod-mod w (old + v) m
    ∙ ap (λ n. n % m) (let l : w + (old + v) ≡ old + (v + w) = omega arith in l)
    ∙ sym (add-mod-mod old (v + w) m)

-- more numbers
pub summed_more : (s : SumView) (mid end : ℕ) (now later : List ℕ) → KeepsRules s.problem → s.next ≤ mid → mid ≤ end
    → IsSummed s mid now
    → NoneBad (is_bad_of s.problem) mid end → AreResidues s.problem later → GrewByNumbers s.problem mid end now later
    → IsSummed s end later
summed_more s mid end now later rules from order before none residues grew = record {
  none_bad = none_append (is_bad_of s.problem) s.next mid end before.none_bad none;
  are_residues = residues;
  grew = λ place within.
      let p = s.problem in
      let m = modulus_at p.moduli place in
      let terms = integral_at p.moduli p.integrals place in
      let a = before.grew place within in
      let b = grew place within in
      record {
        value = (a.value + b.value) % m;
        is_residue =
            subst (λ f. IsResidue m f ((a.value + b.value) % m))
            (sym (partial_sum-cut p.weights p.shape s.next mid end terms from order))
            (IsResidue-plus m (partial_sum p.weights p.shape s.next mid terms) (partial_sum p.weights p.shape mid end terms) a.value b.value
            (modulus_above p rules place) a.is_residue b.is_residue);
        sum = grew_twice m (slice_index s.residues place) (slice_index now place)
            (slice_index later place) a.value b.value a.sum b.sum;
      };
}

-- true sums stay true
pub stays_true : (s : SumView) (end : ℕ) (residues : List ℕ) → KeepsRules s.problem → s.next ≤ end
    → IsSummed s end residues → IsTrueSum s
    → ArePartialSums s.problem 0 end residues
stays_true s end residues rules order summed true_sum = record {
  as_many = let e = summed.are_residues.one_each in omega arith;
  each = λ place within.
      let p = s.problem in
      let m = modulus_at p.moduli place in
      let terms = integral_at p.moduli p.integrals place in
      let g = summed.grew place within in
      subst (λ f. IsResidue m f (slice_index residues place))
      (sym (partial_sum-cut p.weights p.shape 0 s.next end terms (omega arith) order))
      (subst (IsResidue m (plus (partial_sum p.weights p.shape 0 s.next terms) (partial_sum p.weights p.shape s.next end terms))) (sym g.sum)
      (IsResidue-plus m (partial_sum p.weights p.shape 0 s.next terms) (partial_sum p.weights p.shape s.next end terms) (slice_index s.residues place) g.value
      (modulus_above p rules place) (true_sum.each place within) g.is_residue));
}
