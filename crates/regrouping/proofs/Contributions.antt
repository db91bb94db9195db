-- The contribution of a tree is the sum of its terms' products of parts, with a common factor; so the residues of these sums are its residues.
use Rattle.std.proofs.Common.{◌≡◌, ℕ, ◌+◌, ◌<◌, Bool, true, ◌==◌, if◌then◌else◌, List, [], ◌∷◌, length, map, sum, ℤ, pos, ◌+ℤ◌, ◌*ℤ◌, refl, sym, ap, ap₂, ◌∙◌, arith}
use Rattle.std.proofs.lemmas.List.{length-map}
use Rattle.std.proofs.lemmas.List.Sums.{sum_by-cons}
use Rattle.std.proofs.lemmas.Bool.Decides.{nat_tests}
use Rattle.arithmetic.specs.Fractions.{Fraction, fraction, times, plus, product_of_fractions, sum_of_fractions, IsResidue}
use Rattle.arithmetic.specs.Numbers.{factorial}
use Rattle.arithmetic.proofs.IntegerLaws.{*ℤ-+ℤ}
use Rattle.arithmetic.proofs.Progressions.{times-+ℤ}
use Rattle.arithmetic.proofs.FractionSums.{plus-zero}
use Rattle.arithmetic.proofs.FractionProducts.{times-assoc}
use Rattle.trees.specs.Decorated.{DecoratedTree}
use Rattle.classes.specs.declared.class.Class.{Class}
use Rattle.classes.specs.declared.class.Term.{Term}
use Rattle.localisation.specs.VertexFraction.{End, plain_vertex, psi_vertex, vertex_fraction}
use Rattle.localisation.specs.ClassValue.{ends_at, marks_at, colour_of, at_edges, class_edge, class_product, exponent_of, exponents_at, term_value}
use Rattle.localisation.specs.Contribution.{contribution, vertex_factors, term_factor, edge_factors}
use Rattle.regrouping.specs.Extensions.{Extends}
use Rattle.regrouping.specs.TreeParts.{tree_parts, plain_vertices, class_step_part}
use Rattle.regrouping.specs.TermParts.{IsPsiFree, AllPsiFree, start, contribution_parts}
use Rattle.regrouping.proofs.Factors.{at, by, same_places}
use Rattle.regrouping.proofs.ExtensionLaws.{extends_same, extends_trans, extends_times, extends_plus, IsResidue-extends}
use Rattle.regrouping.proofs.EdgeProducts.{over-same}
use Rattle.regrouping.proofs.TreeProducts.{IsWalkedTree, tree_parts-extend, class_vertices-spread}

-- ---- a factor before a sum
plus-factor : (a f h : Fraction) → Extends (plus (times a f) (times a h)) (times a (plus f h))
plus-factor a f h = record {
  factor = a.bottom;
  top = ap₂ (λ x y. x +ℤ y) (moved f.top h.bottom) (moved h.top f.bottom)
      ∙ sym (ap (λ z. z *ℤ a.bottom) (*ℤ-+ℤ a.top (f.top *ℤ h.bottom) (h.top *ℤ f.bottom))
      ∙ times-+ℤ (a.top *ℤ (f.top *ℤ h.bottom)) (a.top *ℤ (h.top *ℤ f.bottom)) a.bottom);
  bottom = same_places (a.bottom ∷ f.bottom ∷ h.bottom ∷ []) (by (by (at 0) (at 1)) (by (at 0) (at 2))) (by (by (at 0) (by (at 1) (at 2))) (at 0)) refl;
}
  where
    moved : (x y : ℤ) → a.top *ℤ x *ℤ (a.bottom *ℤ y) ≡ a.top *ℤ (x *ℤ y) *ℤ a.bottom
    moved x y = same_places (a.top ∷ a.bottom ∷ x ∷ y ∷ []) (by (by (at 0) (at 2)) (by (at 1) (at 3))) (by (by (at 0) (by (at 2) (at 3))) (at 1)) refl

pub sum-factor : {A : Type 0} (a : Fraction) (f : A → Fraction) (x : A) (xs : List A)
    → Extends (sum_of_fractions (map (λ y. times a (f y)) (x ∷ xs))) (times a (sum_of_fractions (map f (x ∷ xs))))
sum-factor a f x [] = extends_same _ _ (plus-zero (times a (f x)) ∙ ap (times a) (sym (plus-zero (f x))))
sum-factor a f x (y ∷ ys) =
    extends_trans (extends_plus (extends_same (times a (f x)) (times a (f x)) refl) (sum-factor a f y ys))
    (plus-factor a (f x) (sum_of_fractions (map f (y ∷ ys))))

-- ---- terms without psi classes
exponents_none : (term : Term) (js : List ℕ) → IsPsiFree term → sum (map (exponent_of term) js) ≡ 0
exponents_none term [] h = refl
exponents_none term (j ∷ js) h =
    let first = h j in
    let rest = exponents_none term js h in
    sum_by-cons (λ z. z) (exponent_of term j) (map (exponent_of term) js) ∙ ap₂ (λ x y. x + y) first rest

pub plain_case : (ws : List ℤ) (c : ℕ) (es : List End) (ks : List ℕ) → sum ks ≡ 0 → vertex_fraction ws c es ks ≡ plain_vertex ws c es (length ks)
plain_case ws c es ks h =
    ap (λ (b : Bool). if b then plain_vertex ws c es (length ks) else psi_vertex ws c es ks) (let e : (sum ks == 0) ≡ true = grind (arith, nat_tests, h) in e)

pub vertex_factors-plain : (ws : List ℤ) (term : Term) (g : DecoratedTree) → IsPsiFree term → vertex_factors ws term g ≡ plain_vertices ws g
vertex_factors-plain ws term g h =
    over-same g.vertices _ _ (λ v. plain_case ws (colour_of g v) (ends_at g v) (exponents_at term g v) (exponents_none term (marks_at g v) h)
    ∙ ap (plain_vertex ws (colour_of g v) (ends_at g v)) (length-map (marks_at g v) (exponent_of term)))

-- ---- the value of a class with fractions at edges and vertices
pub class_product-spread : (ws : List ℤ) (class : Class) (g : DecoratedTree) (s : ℕ × ℕ) (rest : List (ℕ × ℕ)) → IsWalkedTree g s rest
    → class_product ws class g ≡ times (product_of_fractions (at_edges (class_edge ws class) g)) (product_of_fractions (map (class_step_part ws class g) rest))
class_product-spread ws class g s rest r = ap (times (product_of_fractions (at_edges (class_edge ws class) g))) (class_vertices-spread ws class g s rest r)

-- ---- the contribution
terms-extend : (ws : List ℤ) (g : DecoratedTree) (s : ℕ × ℕ) (rest : List (ℕ × ℕ)) (terms : List Term) → IsWalkedTree g s rest → AllPsiFree terms
    → Extends (sum_of_fractions (map (λ term. times (tree_parts ws g rest) (term_value ws term g)) terms)) (sum_of_fractions (map (term_factor ws g) terms))
terms-extend ws g s rest [] r h = extends_same _ _ refl
terms-extend ws g s rest (t ∷ ts) r h =
    extends_plus
    (extends_times (extends_trans (tree_parts-extend ws g s rest r) (extends_same _ _ (sym (vertex_factors-plain ws t g h.0)))) (extends_same (term_value ws t g) (term_value ws t g) refl))
    (terms-extend ws g s rest ts r h.1)

pub contribution_parts-extend : (ws : List ℤ) (g : DecoratedTree) (s : ℕ × ℕ) (rest : List (ℕ × ℕ)) (t : Term) (ts : List Term)
    → IsWalkedTree g s rest → AllPsiFree (t ∷ ts) → Extends (contribution_parts ws (t ∷ ts) g rest) (contribution ws (t ∷ ts) g)
unfolding contribution
contribution_parts-extend ws g s rest t ts r h =
    extends_trans (sum-factor (start ws g) (λ term. times (tree_parts ws g rest) (term_value ws term g)) t ts)
    (extends_trans (extends_times (extends_same (start ws g) (start ws g) refl) (terms-extend ws g s rest (t ∷ ts) r h))
    (extends_same _ _ (times-assoc (fraction (pos 1) (pos (factorial g.vertices))) (edge_factors ws g) (sum_of_fractions (map (term_factor ws g) (t ∷ ts))))))

-- a residue of the sum of products of parts is one of the contribution
pub IsResidue-parts : (m : ℕ) (ws : List ℤ) (g : DecoratedTree) (s : ℕ × ℕ) (rest : List (ℕ × ℕ)) (t : Term) (ts : List Term) (x : ℕ) → 1 < m
    → IsWalkedTree g s rest → AllPsiFree (t ∷ ts) → IsResidue m (contribution_parts ws (t ∷ ts) g rest) x → IsResidue m (contribution ws (t ∷ ts) g) x
IsResidue-parts m ws g s rest t ts x h r free p =
    IsResidue-extends m (contribution_parts ws (t ∷ ts) g rest) (contribution ws (t ∷ ts) g) x h (contribution_parts-extend ws g s rest t ts r free) p
