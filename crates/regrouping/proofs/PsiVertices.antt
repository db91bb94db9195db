-- The fraction of a vertex under exponents is the product of its shares, its tangent weights and what is left, with a common factor.
use Rattle.std.proofs.Common.{◌≡◌, ◌≢◌, ℕ, suc, ◌+◌, ◌-◌, ◌≤◌, nat_lt, ◌==◌, if◌then◌else◌, Bool, true, false, List, [], ◌∷◌, length, map, sum, ℤ, pos, ◌*ℤ◌, neg_ℤ, refl, sym, ap, ap₂, ◌∙◌, arith}
use Rattle.std.proofs.Math.IntN.{*ℤ_comm, *ℤ-zero}
use Rattle.std.proofs.lemmas.Bool.Decides.{nat_tests}
use Rattle.arithmetic.specs.Numbers.{power}
use Rattle.arithmetic.specs.Fractions.{Fraction, fraction, times, product_of_fractions, power_of_fraction}
use Rattle.arithmetic.proofs.FractionSums.{one-*ℤ}
use Rattle.localisation.specs.VertexFraction.{End, difference, psi_vertex, plain_vertex, vertex_fraction, stable_psi_vertex, multinomial}
use Rattle.regrouping.specs.Extensions.{Extends}
use Rattle.regrouping.specs.Flags.{flag, flag_sum, share, hub, tangent_part}
use Rattle.regrouping.specs.PsiParts.{psi_left, vertex_left, parts_with}
use Rattle.regrouping.proofs.Factors.{at, by, none, same_places}
use Rattle.regrouping.proofs.ExtensionLaws.{extends_same, extends_trans}
use Rattle.regrouping.proofs.VertexParts.{vertex_parts-extend, shares-are, one_flag}
use Rattle.regrouping.proofs.PsiParts.{psi-parts}
use Rattle.regrouping.proofs.Contributions.{plain_case}

-- ---- in numbers
tip_parts : (d a n b : ℤ)
    → Extends (times (fraction (pos 1) (pos 1)) (times (times (fraction d a) (fraction (pos 1) (pos 1))) (times (fraction a d) (fraction n b)))) (fraction n b)
tip_parts d a n b = record {
  factor = d *ℤ a;
  top = same_places (d ∷ a ∷ n ∷ []) (by none (by (by (at 0) none) (by (at 1) (at 2)))) (by (at 2) (by (at 0) (at 1))) refl;
  bottom = same_places (d ∷ a ∷ b ∷ []) (by none (by (by (at 1) none) (by (at 0) (at 2)))) (by (at 2) (by (at 0) (at 1))) refl;
}

-- the share of a leaf in the place of its flag, and two powers of the flag more
leaf_parts : (d a k : ℤ) (p : ℕ)
    → Extends
    (times (fraction (pos 1) (pos 1)) (times (times (fraction d a) (fraction (pos 1) (pos 1))) (times (power_of_fraction (fraction a d) (suc (suc p))) (fraction k (pos 1)))))
    (times (fraction (pos 1) (pos 1)) (times (times (fraction a d) (fraction (pos 1) (pos 1))) (times (power_of_fraction (fraction a d) p) (fraction k (pos 1)))))
leaf_parts d a k p = record {
  factor = d *ℤ a;
  top = same_places (d ∷ a ∷ power a p ∷ k ∷ []) (by none (by (by (at 0) none) (by (by (by (at 2) (at 1)) (at 1)) (at 3))))
      (by (by none (by (by (at 1) none) (by (at 2) (at 3)))) (by (at 0) (at 1))) refl;
  bottom = same_places (d ∷ a ∷ power d p ∷ []) (by none (by (by (at 1) none) (by (by (by (at 2) (at 0)) (at 0)) none)))
      (by (by none (by (by (at 0) none) (by (at 2) none))) (by (at 0) (at 1))) refl;
}

zero_parts : (f g : Fraction) → Extends (times f (times g (fraction (pos 0) (pos 1)))) (fraction (pos 0) (pos 1))
zero_parts f g = record {
  factor = f.bottom *ℤ (g.bottom *ℤ pos 1);
  top = ap (λ z. f.top *ℤ z) (*ℤ-zero g.top) ∙ *ℤ-zero f.top
      ∙ sym (*ℤ_comm (pos 0) (f.bottom *ℤ (g.bottom *ℤ pos 1)) ∙ *ℤ-zero (f.bottom *ℤ (g.bottom *ℤ pos 1)));
  bottom = sym (one-*ℤ (f.bottom *ℤ (g.bottom *ℤ pos 1)));
}

-- ---- one end, and two marks or more
leaf_stable : (ws : List ℤ) (c : ℕ) (e : End) (ks : List ℕ) (p : ℕ) → 1 + length ks ≡ p + 3 + sum ks
    → Extends
    (parts_with ws c (e ∷ []) (times (power_of_fraction (flag_sum ws c (e ∷ [])) (length ks - sum ks)) (fraction (pos (multinomial (1 + length ks - 3) ks)) (pos 1))))
    (stable_psi_vertex ws c (e ∷ []) ks)
leaf_stable ws c e ks p h =
    let k = pos (multinomial (1 + length ks - 3) ks) in
    let two : length ks - sum ks ≡ suc (suc p) = omega arith in
    extends_trans
    (extends_same _ _ (ap₂ (λ f n. parts_with ws c (e ∷ []) (times (power_of_fraction f n) (fraction k (pos 1)))) (one_flag ws c e) two))
    (extends_trans (leaf_parts (difference ws c e) (pos e.degree) k p)
    (extends_same _ _
    (ap (λ f. times (fraction (pos 1) (pos 1)) (times (times (flag ws c e) (fraction (pos 1) (pos 1))) (times (power_of_fraction f p) (fraction k (pos 1))))) (sym (one_flag ws c e))
    ∙ psi-parts ws c (e ∷ []) ks p h)))

-- ---- two ends or more
more_stable : (ws : List ℤ) (c : ℕ) (e f : End) (es : List End) (ks : List ℕ) → (let all = e ∷ f ∷ es in
    3 + sum ks ≤ length all + length ks
    → Extends
    (parts_with ws c all (times (power_of_fraction (flag_sum ws c all) (length all + length ks - 3 - sum ks)) (fraction (pos (multinomial (length all + length ks - 3) ks)) (pos 1))))
    (stable_psi_vertex ws c all ks))
more_stable ws c e f es ks h =
    let all = e ∷ f ∷ es in
    let p = length all + length ks - 3 - sum ks in
    extends_same _ _
    (ap (λ fs. times (tangent_part ws c (length all)) (times (product_of_fractions fs)
    (times (power_of_fraction (flag_sum ws c all) p) (fraction (pos (multinomial (length all + length ks - 3) ks)) (pos 1))))) (shares-are ws c (length es) all)
    ∙ psi-parts ws c all ks p (let l : length all + length ks ≡ p + 3 + sum ks = omega arith in l))

-- ---- the cases
either_way : (ws : List ℤ) (c : ℕ) (es : List End) (b : Bool) (x y : Fraction) → (b ≡ false → Extends (parts_with ws c es x) y)
    → Extends (parts_with ws c es (if b then fraction (pos 0) (pos 1) else x)) (if b then fraction (pos 0) (pos 1) else y)
either_way ws c es true x y h = zero_parts (tangent_part ws c (length es)) (product_of_fractions (map (share ws c (length es)) es))
either_way ws c es false x y h = h refl

some_marks : (ks : List ℕ) → sum ks ≢ 0 → 1 ≤ length ks
some_marks [] h = absurd (h refl)
some_marks (k ∷ ks) h = omega arith

not_above : (a b : ℕ) → nat_lt a b ≡ false → b ≤ a
not_above a b h = grind (arith, nat_tests)

psi_parts-extend : (ws : List ℤ) (c : ℕ) (es : List End) (ks : List ℕ) → 1 ≤ length es → sum ks ≢ 0
    → Extends (parts_with ws c es (psi_left ws c es ks)) (psi_vertex ws c es ks)
unfolding psi_vertex
psi_parts-extend ws c [] ks h some = absurd (omega arith)
psi_parts-extend ws c (e ∷ []) [] h some = absurd (some refl)
psi_parts-extend ws c (e ∷ []) (k ∷ []) h some =
    tip_parts (difference ws c e) (pos e.degree) (power (neg_ℤ (difference ws c e)) k) (power (pos e.degree) k)
psi_parts-extend ws c (e ∷ []) (k ∷ l ∷ ks) h some =
    let js = k ∷ l ∷ ks in
    either_way ws c (e ∷ []) (nat_lt (1 + length js - 3) (sum js)) _ _
    (λ within. let most = not_above (1 + length js - 3) (sum js) within in
    leaf_stable ws c e js (length js - 2 - sum js) (let n : 1 + length js ≡ length js - 2 - sum js + 3 + sum js = omega arith in n))
psi_parts-extend ws c (e ∷ f ∷ es) ks h some =
    let all = e ∷ f ∷ es in
    either_way ws c all (nat_lt (length all + length ks - 3) (sum ks)) _ _
    (λ within. let most = not_above (length all + length ks - 3) (sum ks) within in
    let marks = some_marks ks some in
    more_stable ws c e f es ks (omega arith))

-- the parts of a vertex with an end are its fraction under any exponents, with a common factor
pub vertex_left-extend : (ws : List ℤ) (c : ℕ) (es : List End) (ks : List ℕ) → 1 ≤ length es
    → Extends (parts_with ws c es (vertex_left ws c es ks)) (vertex_fraction ws c es ks)
vertex_left-extend ws c es ks h = by_case (sum ks == 0) refl
  where
    is_zero : (n : ℕ) → (n == 0) ≡ true → n ≡ 0
    is_zero n e = grind (arith, nat_tests)

    not_zero : (n : ℕ) → (n == 0) ≡ false → n ≢ 0
    not_zero n e = grind (arith, nat_tests)

    by_case : (b : Bool) → (sum ks == 0) ≡ b → Extends (parts_with ws c es (vertex_left ws c es ks)) (vertex_fraction ws c es ks)
    by_case true e =
        extends_trans
        (extends_same _ _ (ap (λ (t : Bool). parts_with ws c es (if t then times (hub ws c es) (power_of_fraction (flag_sum ws c es) (length ks)) else psi_left ws c es ks)) e))
        (extends_trans (vertex_parts-extend ws c es (length ks) h) (extends_same _ _ (sym (plain_case ws c es ks (is_zero (sum ks) e)))))
    by_case false e =
        extends_trans
        (extends_same _ _ (ap (λ (t : Bool). parts_with ws c es (if t then times (hub ws c es) (power_of_fraction (flag_sum ws c es) (length ks)) else psi_left ws c es ks)) e))
        (extends_trans (psi_parts-extend ws c es ks h (not_zero (sum ks) e))
        (extends_same _ _ (sym (ap (λ (t : Bool). if t then plain_vertex ws c es (length ks) else psi_vertex ws c es ks) e))))
