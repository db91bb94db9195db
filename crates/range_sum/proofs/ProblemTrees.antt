-- What the rules of a problem give for its trees and terms.
use Rattle.std.proofs.Common.{◌≡◌, ℕ, ◌+◌, ◌*◌, ◌≤◌, ◌==◌, if◌then◌else◌, Bool, true, false, List, [], ◌∷◌, map, sum, sum_by, All, IsTrue, Some, sym, subst, arith, mul-le-mul}
use Rattle.std.specs.List.{slice_get}
use Rattle.std.proofs.lemmas.List.Elements.{All-weaker}
use Rattle.std.proofs.lemmas.List.Sums.{sum-map, sum_by-cons}
use Rattle.std.proofs.lemmas.Option.{get_or_from_slice_get, slice_get_within}
use Rattle.trees.specs.Decorated.{TreeShape}
use Rattle.residue.specs.declared.class.Class.{Class}
use Rattle.residue.specs.declared.class.Class.TheVariants.{Mark, Hypersurface, Incidence, R1, Contact, Psi}
use Rattle.residue.specs.declared.class.Power.{Power}
use Rattle.residue.specs.declared.class.Term.{Term}
use Rattle.residue.specs.Classes.{IsPowerFor}
use Rattle.residue.specs.Degrees.{class_degree}
use Rattle.localisation.specs.ClassValue.{psi_power}
use Rattle.decorated_tree.specs.declared.tree.Tree.{Tree}
use Rattle.decorated_tree.specs.Shapes.{within_limits}
use Rattle.decorated_tree.specs.Trees.{is_tree_of}
use Rattle.decorated_tree.proofs.Counts.{limits}
use Rattle.tree_parts.specs.Trees.{IsTreeOfRank}
use Rattle.contribution.specs.Terms.{IsTermFor}
use Rattle.problem.specs.Rules.{IsPower, IsTermOf, IsIntegralOf, powers_degree, dimension_of}

-- ---- exponents: a psi class has degree 1, so the exponents of the marks are at most the degree of the term
chosen : (b : Bool) (n : ℕ) → (if b then n else 0) ≤ 1 * n
chosen true n = omega arith
chosen false n = omega arith

one_power : (j d n : ℕ) (class : Class) → psi_power j (record { class = class; power = n }) ≤ class_degree class d * n
one_power j d n (Mark i) = omega arith
one_power j d n (Hypersurface b) = omega arith
one_power j d n (Incidence q) = omega arith
one_power j d n (R1 k) = omega arith
one_power j d n Contact = omega arith
one_power j d n (Psi i) = chosen (i == j) n

powers_within : (j d : ℕ) (ps : List Power) → sum_by (psi_power j) ps ≤ powers_degree d ps
powers_within j d [] = omega arith
powers_within j d (p ∷ ps) =
    rw (sum_by-cons (psi_power j) p ps) (both_within _ _ _ _ (one_power j d p.power p.class) (powers_within j d ps))
  where
    both_within : (a b x y : ℕ) → a ≤ x → b ≤ y → a + b ≤ x + y
    both_within a b x y h k = omega arith

exponent_within : (j d : ℕ) (ps : List Power) → sum (map (psi_power j) ps) ≤ powers_degree d ps
exponent_within j d ps = rw (sum-map (psi_power j) ps) (powers_within j d ps)

-- the dimension is at most 13 * 10 + 12 + 12 - 3
dimension_within : (s : TreeShape) → within_limits s ≡ true → dimension_of s ≤ 151
dimension_within s h =
    let l = limits s.rank s.degree s.marks h in
    let rank = l.most_rank in
    let degree = l.most_degree in
    let marks = l.most_marks in
    let most : (s.rank + 1) * s.degree ≤ 13 * 10 =
    mul-le-mul (let above : s.rank + 1 ≤ 13 = omega arith in above) degree in
    omega (arith, most, rank, marks)

term_for : (s : TreeShape) → within_limits s ≡ true → (term : Term) → IsTermOf s term → IsTermFor s.marks term
term_for s h term t = record {
  classes = All-weaker (IsPower s.marks) (IsPowerFor s.marks) (λ p k. k.class) term.classes t.limits.classes;
  exponents = λ j.
      let one = exponent_within j s.degree term.classes in
      let whole = t.dimension in
      let most = dimension_within s h in
      omega (arith, one, whole, most);
}

-- ---- the terms of an integral of a problem
pub terms_for : (s : TreeShape) (integrals : List (List Term)) (i : ℕ) (terms : List Term) → within_limits s ≡ true
    → All (IsIntegralOf s) integrals
    → slice_get integrals i ≡ Some terms → All (IsTermFor s.marks) terms
terms_for s integrals i terms h all e =
    let there =
    subst (IsIntegralOf s) (get_or_from_slice_get integrals i terms [] e)
    (all i [] (slice_get_within integrals i terms e)) in
    All-weaker (IsTermOf s) (IsTermFor s.marks) (term_for s h) terms there.each

-- ---- the trees of a problem
pub tree_of_rank : (s : TreeShape) (t : Tree) (rank : ℕ) → within_limits s ≡ true → rank ≡ s.rank
    → IsTrue (is_tree_of s t) → IsTreeOfRank rank t
tree_of_rank s t rank h e tree =
    let l = limits s.rank s.degree s.marks h in (s, sym e, l.most_degree, l.most_marks, tree)
