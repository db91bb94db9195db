-- The fraction that is found for an integral is its sum, if that lies within the bounds.
use Rattle.std.proofs.Common.{ℕ, ◌+◌, ◌*◌, ◌<◌, List, [], length, slice_index, get_or, Option, sym, subst}
use Rattle.arithmetic.specs.Fractions.{IsResidue}
use Rattle.localisation.specs.Agreement.{modulus_at, integral_at}
use Rattle.localisation.specs.Contribution.{kontsevich_sum}
use Rattle.recover_fraction.specs.declared.recovery.Fraction.{Fraction}
use Rattle.problem.specs.Rules.{ProblemView}
use Rattle.problem.specs.Sums.{AreKontsevichSums}
use Rattle.report.specs.Fractions.{residues_of, AreFractions, FindSums}
use Rattle.report.proofs.LowestTerms.{residue_in_lowest_terms}
use Rattle.report.proofs.Integrals.{place_within, modulus_there, integral_there, residue_there}

-- the residue of the sum of the integral i modulo the modulus j
sum_residue : (p : ProblemView) (residues : List ℕ) (i j : ℕ) → AreKontsevichSums p residues → i < length p.integrals
    → j < length p.moduli
    → IsResidue (slice_index p.moduli j) (kontsevich_sum p.weights p.shape (get_or p.integrals i [])) (slice_index (residues_of p residues i) j)
sum_residue p residues i j d h l =
    let place = i * length p.moduli + j in
    subst
    (λ m. IsResidue m (kontsevich_sum p.weights p.shape (get_or p.integrals i [])) (slice_index (residues_of p residues i) j))
    (modulus_there p.moduli i j l)
    (subst (λ terms. IsResidue (modulus_at p.moduli place) (kontsevich_sum p.weights p.shape terms) (slice_index (residues_of p residues i) j))
    (integral_there p.moduli p.integrals i j l)
    (subst (λ x. IsResidue (modulus_at p.moduli place) (kontsevich_sum p.weights p.shape (integral_at p.moduli p.integrals place)) x)
    (sym (residue_there p residues i j l)) (d.each place (place_within p i j h l))))

pub sums_found : (p : ProblemView) (residues : List ℕ) (found : List (Option Fraction)) → AreKontsevichSums p residues
    → AreFractions p residues found
    → FindSums p found
sums_found p residues found d h i l f lowest top bottom =
    (h.each i l f).0 (record {
      top_within = top;
      positive = lowest.positive;
      bottom_within = bottom;
      lowest = lowest.lowest;
      divides = λ j k.
          residue_in_lowest_terms (slice_index p.moduli j) (slice_index (residues_of p residues i) j)
          (kontsevich_sum p.weights p.shape (get_or p.integrals i [])) f (sum_residue p residues i j d l k) lowest;
    })
