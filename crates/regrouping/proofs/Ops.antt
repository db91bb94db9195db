-- What one term adds is the product of its operations.
use Rattle.std.proofs.Common.{◌≡◌, ℕ, List, [], ◌∷◌, map, ℤ, pos, refl, sym, ap, ap₂, ◌∙◌, IsPermutation}
use Rattle.arithmetic.specs.Numbers.{factorial}
use Rattle.arithmetic.specs.Fractions.{Fraction, fraction, times, product_of_fractions}
use Rattle.trees.specs.Decorated.{DecoratedTree}
use Rattle.classes.specs.declared.class.Term.{Term}
use Rattle.localisation.specs.EdgeFraction.{edge_fraction}
use Rattle.localisation.specs.ClassValue.{at_edges}
use Rattle.localisation.specs.Contribution.{edge_factors}
use Rattle.regrouping.specs.Spread.{over}
use Rattle.regrouping.specs.TreeParts.{share_at, step_part, hub_part, mark_part, edge_parts, tree_parts}
use Rattle.regrouping.specs.TermEdges.{term_edge, term_step, term_whole}
use Rattle.regrouping.specs.TermParts.{start, term_parts}
use Rattle.regrouping.specs.Ops.{both_at, edge_at, term_start, term_ops}
use Rattle.regrouping.proofs.Factors.{at, by, same_places, Shape}
use Rattle.regrouping.proofs.Prefixes.{paired-products}
use Rattle.regrouping.proofs.Steps.{with_degrees, both_shares-ordered, along_edges-ordered}
use Rattle.regrouping.proofs.TreeProducts.{IsWalkedTree}
use Rattle.regrouping.proofs.TermValues.{term_value-parts}

abbrev before : Shape
before =
    by (by (at 0) (at 1)) (by (by (at 2) (by (at 3) (by (at 4) (at 5)))) (by (at 6) (by (at 7) (by (at 8) (at 9)))))

abbrev after : Shape
after = by (by (at 0) (at 6)) (by (by (at 1) (by (at 3) (at 7))) (by (by (at 2) (at 8)) (by (at 4) (by (at 5) (at 9)))))

moved : (k e t b h m c v w x : Fraction)
    → times (times k e) (times (times t (times b (times h m))) (times c (times v (times w x))))
    ≡ times (times k c) (times (times e (times b v)) (times (times t w) (times h (times m x))))
moved k e t b h m c v w x =
    ap₂ fraction
    (same_places (k.top ∷ e.top ∷ t.top ∷ b.top ∷ h.top ∷ m.top ∷ c.top ∷ v.top ∷ w.top ∷ x.top ∷ []) before after refl)
    (same_places (k.bottom ∷ e.bottom ∷ t.bottom ∷ b.bottom ∷ h.bottom ∷ m.bottom ∷ c.bottom ∷ v.bottom ∷ w.bottom ∷ x.bottom ∷ []) before after refl)

pub term_parts-ops : (ws : List ℤ) (term : Term) (g : DecoratedTree) (s : ℕ × ℕ) (rest : List (ℕ × ℕ)) (xs : List ((ℕ × ℕ) × ℕ)) → IsWalkedTree g s rest
    → IsPermutation xs (with_degrees g.edges g.degrees) → term_parts ws g rest term ≡ term_ops ws term g xs rest
term_parts-ops ws term g s rest xs r p =
    ap (λ v. times (start ws g) (times (tree_parts ws g rest) v)) (term_value-parts ws term g s rest r)
    ∙ moved (fraction (pos 1) (pos (factorial g.vertices))) (edge_factors ws g) (product_of_fractions (map (step_part ws g) rest))
    (product_of_fractions (edge_parts ws g)) (over g.vertices (hub_part ws g)) (product_of_fractions (map (mark_part ws g) g.marks))
    (fraction term.coefficient (pos 1)) (product_of_fractions (at_edges (term_edge ws term) g)) (product_of_fractions (map (term_step ws term g) rest)) (term_whole ws term g)
    ∙ ap (times (term_start g term))
    (ap₂ times
    (ap₂ times (along_edges-ordered (edge_fraction ws) g.colours g.edges g.degrees xs p)
    (ap₂ times (both_shares-ordered (share_at ws g) g.colours g.edges g.degrees xs p) (along_edges-ordered (term_edge ws term) g.colours g.edges g.degrees xs p)
    ∙ sym (paired-products (both_at (share_at ws g) g.colours) (edge_at (term_edge ws term) g.colours) xs))
    ∙ sym (paired-products (edge_at (edge_fraction ws) g.colours) (λ x. times (both_at (share_at ws g) g.colours x) (edge_at (term_edge ws term) g.colours x)) xs))
    (ap (λ f. times f (times (over g.vertices (hub_part ws g)) (times (product_of_fractions (map (mark_part ws g) g.marks)) (term_whole ws term g))))
    (sym (paired-products (step_part ws g) (term_step ws term g) rest))))
