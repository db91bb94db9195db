-- The contribution of a tree is the sum over all terms of the products of its parts under the term's exponents, with a common factor.
use Rattle.std.proofs.Common.{◌≡◌, ℕ, ◌<◌, ◌≤◌, drop, true, List, [], ◌∷◌, length, map, ℤ, pos, refl, sym, ap, ap₂, subst, ◌∙◌}
use Rattle.arithmetic.specs.Numbers.{factorial}
use Rattle.arithmetic.specs.Fractions.{Fraction, fraction, times, product_of_fractions, sum_of_fractions, IsResidue}
use Rattle.arithmetic.proofs.FractionProducts.{times-assoc}
use Rattle.trees.specs.Decorated.{DecoratedTree, TreeShape, is_decorated}
use Rattle.trees.specs.Walks.{walk_in}
use Rattle.classes.specs.declared.class.Term.{Term}
use Rattle.localisation.specs.Weights.{tangent_product}
use Rattle.localisation.specs.ClassValue.{ends_at, colour_of, exponents_at, term_value}
use Rattle.localisation.specs.Contribution.{contribution, vertex_factors, term_factor, edge_factors}
use Rattle.regrouping.specs.Extensions.{Extends}
use Rattle.regrouping.specs.Flags.{tangent_part}
use Rattle.regrouping.specs.Spread.{over}
use Rattle.regrouping.specs.TreeParts.{share_at}
use Rattle.regrouping.specs.TermParts.{start}
use Rattle.regrouping.specs.PsiParts.{parts_with, left_at, parts_under, contribution_under}
use Rattle.regrouping.proofs.ExtensionLaws.{extends_same, extends_trans, extends_times, extends_plus, IsResidue-extends}
use Rattle.regrouping.proofs.EdgeProducts.{over-times, over-ends}
use Rattle.regrouping.proofs.Valences.{length-ends, valence-positive}
use Rattle.regrouping.proofs.TreeProducts.{IsWalkedTree, extends_over, over-ends_less}
use Rattle.regrouping.proofs.Contributions.{sum-factor}
use Rattle.regrouping.proofs.PsiVertices.{vertex_left-extend}
use Rattle.regrouping.proofs.WalkedTrees.{decorated_walk}

over-parts : (ws : List ℤ) (term : Term) (g : DecoratedTree) (s : ℕ × ℕ) (rest : List (ℕ × ℕ)) → IsWalkedTree g s rest
    → over g.vertices (λ v. parts_with ws (colour_of g v) (ends_at g v) (left_at ws term g v)) ≡ parts_under ws term g rest
over-parts ws term g s rest r =
    let n = g.vertices in
    let tangents : ℕ → Fraction = λ v. tangent_part ws (colour_of g v) (length (ends_at g v)) in
    let shares : ℕ → Fraction = λ v. product_of_fractions (map (share_at ws g v) (ends_at g v)) in
    over-times n tangents (λ v. times (shares v) (left_at ws term g v))
    ∙ ap₂ times (over-ends_less g s rest (λ v. fraction (tangent_product ws (colour_of g v)) (pos 1)) r)
    (over-times n shares (left_at ws term g)
    ∙ ap (λ f. times f (over n (left_at ws term g))) (over-ends n (share_at ws g) g.colours g.edges g.degrees r.joins))

-- the fractions of all vertices under a term
pub parts_under-extend : (ws : List ℤ) (term : Term) (g : DecoratedTree) (s : ℕ × ℕ) (rest : List (ℕ × ℕ)) → IsWalkedTree g s rest
    → Extends (parts_under ws term g rest) (vertex_factors ws term g)
parts_under-extend ws term g s rest r =
    extends_trans (extends_same _ _ (sym (over-parts ws term g s rest r)))
    (extends_over g.vertices _ _ (λ v l. vertex_left-extend ws (colour_of g v) (ends_at g v) (exponents_at term g v)
    (subst (λ k. 1 ≤ k) (sym (length-ends v g.colours g.edges g.degrees r.degrees)) (valence-positive g.vertices g.edges s rest v r.walk l))))

terms-extend : (ws : List ℤ) (g : DecoratedTree) (s : ℕ × ℕ) (rest : List (ℕ × ℕ)) (terms : List Term) → IsWalkedTree g s rest
    → Extends (sum_of_fractions (map (λ term. times (parts_under ws term g rest) (term_value ws term g)) terms)) (sum_of_fractions (map (term_factor ws g) terms))
terms-extend ws g s rest [] r = extends_same _ _ refl
terms-extend ws g s rest (t ∷ ts) r =
    extends_plus (extends_times (parts_under-extend ws t g s rest r) (extends_same (term_value ws t g) (term_value ws t g) refl))
    (terms-extend ws g s rest ts r)

-- the contribution, whatever the exponents of its terms are
pub contribution_under-extend : (ws : List ℤ) (g : DecoratedTree) (s : ℕ × ℕ) (rest : List (ℕ × ℕ)) (t : Term) (ts : List Term)
    → IsWalkedTree g s rest → Extends (contribution_under ws (t ∷ ts) g rest) (contribution ws (t ∷ ts) g)
unfolding contribution
contribution_under-extend ws g s rest t ts r =
    extends_trans (sum-factor (start ws g) (λ term. times (parts_under ws term g rest) (term_value ws term g)) t ts)
    (extends_trans (extends_times (extends_same (start ws g) (start ws g) refl) (terms-extend ws g s rest (t ∷ ts) r))
    (extends_same _ _ (times-assoc (fraction (pos 1) (pos (factorial g.vertices))) (edge_factors ws g) (sum_of_fractions (map (term_factor ws g) (t ∷ ts))))))

-- a residue of the sum of products of parts is that of the contribution, for the walk of a decorated tree
pub IsResidue-under : (m : ℕ) (ws : List ℤ) (shape : TreeShape) (g : DecoratedTree) (t : Term) (ts : List Term) (x : ℕ) → 1 < m
    → is_decorated shape g ≡ true → IsResidue m (contribution_under ws (t ∷ ts) g (drop 1 (walk_in g.vertices g.edges (0 ∷ [])))) x
    → IsResidue m (contribution ws (t ∷ ts) g) x
IsResidue-under m ws shape g t ts x h d p =
    let w = decorated_walk shape g d in
    IsResidue-extends m (contribution_under ws (t ∷ ts) g w.rest) (contribution ws (t ∷ ts) g) x h (contribution_under-extend ws g w.first w.rest t ts w.walked)
    (subst (λ rest. IsResidue m (contribution_under ws (t ∷ ts) g rest) x) (ap (drop 1) w.is) p)
