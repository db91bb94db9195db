-- A residue of the sum over the terms of dressed edges and vertices is one of the contribution, since they are its fractions with a common
-- factor. No walk of the tree is needed.
use Rattle.std.proofs.Common.{◌≡◌, ℕ, ◌<◌, ◌≤◌, true, List, [], ◌∷◌, length, map, ℤ, pos, refl, sym, ap, ap₂, subst, ◌∙◌}
use Rattle.arithmetic.specs.Numbers.{factorial}
use Rattle.arithmetic.specs.Fractions.{Fraction, fraction, times, product_of_fractions, sum_of_fractions, power_of_fraction, IsResidue}
use Rattle.arithmetic.proofs.FractionSums.{times-one}
use Rattle.arithmetic.proofs.FractionProducts.{one-times}
use Rattle.trees.specs.Decorated.{DecoratedTree, TreeShape, is_decorated}
use Rattle.classes.specs.declared.class.Class.{Class}
use Rattle.classes.specs.declared.class.Class.TheVariants.{Mark, Hypersurface, Incidence, R1, Contact, Psi}
use Rattle.classes.specs.declared.class.Power.{Power}
use Rattle.classes.specs.declared.class.Term.{Term}
use Rattle.localisation.specs.EdgeFraction.{edge_fraction}
use Rattle.localisation.specs.VertexFraction.{End, plain_vertex}
use Rattle.localisation.specs.ClassValue.{ends_at, marks_at, colour_of, at_edges, class_edge, class_vertex, class_value, term_value}
use Rattle.localisation.specs.Contribution.{contribution, edge_factors, term_factor}
use Rattle.regrouping.specs.Extensions.{Extends}
use Rattle.regrouping.specs.Spread.{over, both_shares}
use Rattle.regrouping.specs.TreeParts.{plain_vertices}
use Rattle.regrouping.specs.TermParts.{IsPsiFree, AllPsiFree}
use Rattle.regrouping.specs.TermEdges.{class_whole, term_edge, term_whole}
use Rattle.regrouping.specs.Ops.{with_degrees, both_at, edge_at}
use Rattle.regrouping.specs.Dressed.{end_share, term_vertex, valence_of, dressed_edge_at, dressed_vertex_at, dressed_term, whole_term, numbered_sum}
use Rattle.regrouping.proofs.Factors.{at, by, same_places}
use Rattle.regrouping.proofs.ExtensionLaws.{extends_same, extends_trans, extends_times, extends_plus, IsResidue-extends}
use Rattle.regrouping.proofs.EdgeProducts.{over-times, over-ends, over-none}
use Rattle.regrouping.proofs.Valences.{length-ends, valence-positive}
use Rattle.regrouping.proofs.Prefixes.{paired-products}
use Rattle.regrouping.proofs.Steps.{along-map, both-map}
use Rattle.regrouping.proofs.TreeProducts.{IsWalkedTree, extends_over}
use Rattle.regrouping.proofs.Contributions.{sum-factor, vertex_factors-plain}
use Rattle.regrouping.proofs.TermValues.{classes_times, classes_list, classes_edges, products-same, none_at_edges}
use Rattle.regrouping.proofs.WalkedTrees.{decorated_walk}
use Rattle.regrouping.proofs.Dressed.{dressed_vertex-extend}

-- ---- the value of a term: its classes at the edges, at the vertices, and of the whole tree
abbrev class_at_vertices : List ℤ → DecoratedTree → Class → Fraction
class_at_vertices ws g class = over g.vertices (λ v. class_vertex ws class (colour_of g v) (valence_of g v))

abbrev class_at_edges : List ℤ → DecoratedTree → Class → Fraction
class_at_edges ws g class = product_of_fractions (at_edges (class_edge ws class) g)

whole_only : (g : DecoratedTree) (f : Fraction)
    → f ≡ times (product_of_fractions (at_edges (λ i j a. fraction (pos 1) (pos 1)) g)) (times (over g.vertices (λ v. fraction (pos 1) (pos 1))) f)
whole_only g f =
    sym (ap₂ times (none_at_edges g.colours g.edges g.degrees) (ap (λ x. times x f) (over-none g.vertices)) ∙ one-times (times (fraction (pos 1) (pos 1)) f) ∙ one-times f)

class_value-dressed : (ws : List ℤ) (class : Class) (g : DecoratedTree)
    → class_value ws class g ≡ times (class_at_edges ws g class) (times (class_at_vertices ws g class) (class_whole ws class g))
class_value-dressed ws (Mark j) g = whole_only g (class_value ws (Mark j) g)
class_value-dressed ws (Incidence q) g = whole_only g (class_value ws (Incidence q) g)
class_value-dressed ws (Psi j) g = whole_only g (class_value ws (Psi j) g)
class_value-dressed ws (Hypersurface b) g = ap (times (class_at_edges ws g (Hypersurface b))) (sym (times-one (class_at_vertices ws g (Hypersurface b))))
class_value-dressed ws (R1 k) g = ap (times (class_at_edges ws g (R1 k))) (sym (times-one (class_at_vertices ws g (R1 k))))
class_value-dressed ws Contact g = ap (times (class_at_edges ws g Contact)) (sym (times-one (class_at_vertices ws g Contact)))

abbrev term_at_vertices : List ℤ → Term → DecoratedTree → Fraction
term_at_vertices ws term g = over g.vertices (λ v. term_vertex ws term (colour_of g v) (valence_of g v))

abbrev term_at_edges : List ℤ → Term → DecoratedTree → Fraction
term_at_edges ws term g = product_of_fractions (at_edges (term_edge ws term) g)

term_value-dressed : (ws : List ℤ) (term : Term) (g : DecoratedTree)
    → term_value ws term g ≡ times (fraction term.coefficient (pos 1)) (times (term_at_edges ws term g) (times (term_at_vertices ws term g) (term_whole ws term g)))
term_value-dressed ws term g =
    let edges : Class → Fraction = class_at_edges ws g in
    let vertices : Class → Fraction = class_at_vertices ws g in
    let whole : Class → Fraction = λ c. class_whole ws c g in
    ap (times (fraction term.coefficient (pos 1)))
    (products-same (λ (p : Power). power_of_fraction (class_value ws p.class g) p.power)
    (λ (p : Power). power_of_fraction (times (edges p.class) (times (vertices p.class) (whole p.class))) p.power) term.classes
    (λ p. ap (λ f. power_of_fraction f p.power) (class_value-dressed ws p.class g))
    ∙ classes_times term.classes edges (λ c. times (vertices c) (whole c))
    ∙ ap₂ times (classes_edges ws term g)
    (classes_times term.classes vertices whole
    ∙ ap (λ x. times x (term_whole ws term g)) (classes_list term.classes (λ c v. class_vertex ws c (colour_of g v) (valence_of g v)) _)))

-- ---- the edges: their fractions, what their ends give, and the classes
abbrev share_of : List ℤ → DecoratedTree → ℕ → End → Fraction
share_of ws g v e = end_share ws (colour_of g v) (valence_of g v) e

abbrev shares_at_edges : List ℤ → DecoratedTree → Fraction
shares_at_edges ws g = product_of_fractions (both_shares (share_of ws g) g.colours g.edges g.degrees)

edges-dressed : (ws : List ℤ) (term : Term) (g : DecoratedTree)
    → product_of_fractions (map (dressed_edge_at ws term g) (with_degrees g.edges g.degrees))
    ≡ times (edge_factors ws g) (times (shares_at_edges ws g) (term_at_edges ws term g))
edges-dressed ws term g =
    let xs = with_degrees g.edges g.degrees in
    paired-products (edge_at (edge_fraction ws) g.colours) (λ x. times (both_at (share_of ws g) g.colours x) (edge_at (term_edge ws term) g.colours x)) xs
    ∙ ap₂ times (ap product_of_fractions (sym (along-map (edge_fraction ws) g.colours g.edges g.degrees)))
    (paired-products (both_at (share_of ws g) g.colours) (edge_at (term_edge ws term) g.colours) xs
    ∙ ap₂ times (ap product_of_fractions (sym (both-map (share_of ws g) g.colours g.edges g.degrees)))
    (ap product_of_fractions (sym (along-map (term_edge ws term) g.colours g.edges g.degrees))))

-- ---- the vertices, with what their ends give
vertices-extend : (ws : List ℤ) (term : Term) (g : DecoratedTree) (s : ℕ × ℕ) (rest : List (ℕ × ℕ)) → IsWalkedTree g s rest
    → Extends (times (shares_at_edges ws g) (over g.vertices (dressed_vertex_at ws term g))) (times (plain_vertices ws g) (term_at_vertices ws term g))
vertices-extend ws term g s rest r =
    let n = g.vertices in
    let shares : ℕ → Fraction = λ v. product_of_fractions (map (share_of ws g v) (ends_at g v)) in
    let plain : ℕ → Fraction = λ v. plain_vertex ws (colour_of g v) (ends_at g v) (length (marks_at g v)) in
    let classes : ℕ → Fraction = λ v. term_vertex ws term (colour_of g v) (valence_of g v) in
    extends_trans
    (extends_same _ _ (ap (λ f. times f (over n (dressed_vertex_at ws term g))) (sym (over-ends n (share_of ws g) g.colours g.edges g.degrees r.joins))
    ∙ sym (over-times n shares (dressed_vertex_at ws term g))))
    (extends_trans
    (extends_over n (λ v. times (shares v) (dressed_vertex_at ws term g v)) (λ v. times (plain v) (classes v))
    (λ v l. dressed_vertex-extend ws term (colour_of g v) (ends_at g v) (length (marks_at g v))
    (subst (λ k. 1 ≤ k) (sym (length-ends v g.colours g.edges g.degrees r.degrees)) (valence-positive n g.edges s rest v r.walk l))))
    (extends_same _ _ (over-times n plain classes)))

-- ---- a term
moved : (c e b a d w : Fraction) → times c (times (times e (times b a)) (times d w)) ≡ times (times c e) (times (times b d) (times a w))
moved c e b a d w =
    ap₂ fraction
    (same_places (c.top ∷ e.top ∷ b.top ∷ a.top ∷ d.top ∷ w.top ∷ []) (by (at 0) (by (by (at 1) (by (at 2) (at 3))) (by (at 4) (at 5))))
    (by (by (at 0) (at 1)) (by (by (at 2) (at 4)) (by (at 3) (at 5)))) refl)
    (same_places (c.bottom ∷ e.bottom ∷ b.bottom ∷ a.bottom ∷ d.bottom ∷ w.bottom ∷ []) (by (at 0) (by (by (at 1) (by (at 2) (at 3))) (by (at 4) (at 5))))
    (by (by (at 0) (at 1)) (by (by (at 2) (at 4)) (by (at 3) (at 5)))) refl)

back : (c e v k a w : Fraction) → times (times c e) (times (times v k) (times a w)) ≡ times e (times v (times c (times a (times k w))))
back c e v k a w =
    ap₂ fraction
    (same_places (c.top ∷ e.top ∷ v.top ∷ k.top ∷ a.top ∷ w.top ∷ []) (by (by (at 0) (at 1)) (by (by (at 2) (at 3)) (by (at 4) (at 5))))
    (by (at 1) (by (at 2) (by (at 0) (by (at 4) (by (at 3) (at 5)))))) refl)
    (same_places (c.bottom ∷ e.bottom ∷ v.bottom ∷ k.bottom ∷ a.bottom ∷ w.bottom ∷ []) (by (by (at 0) (at 1)) (by (by (at 2) (at 3)) (by (at 4) (at 5))))
    (by (at 1) (by (at 2) (by (at 0) (by (at 4) (by (at 3) (at 5)))))) refl)

pub dressed_term-extend : (ws : List ℤ) (term : Term) (g : DecoratedTree) (s : ℕ × ℕ) (rest : List (ℕ × ℕ)) → IsWalkedTree g s rest → IsPsiFree term
    → Extends (dressed_term ws g term) (whole_term ws g term)
dressed_term-extend ws term g s rest r free =
    let c = fraction term.coefficient (pos 1) in
    let e = edge_factors ws g in
    let b = shares_at_edges ws g in
    let a = term_at_edges ws term g in
    let d = over g.vertices (dressed_vertex_at ws term g) in
    let k = term_at_vertices ws term g in
    let w = term_whole ws term g in
    extends_trans (extends_same _ _ (ap (λ f. times c (times f (times d w))) (edges-dressed ws term g) ∙ moved c e b a d w))
    (extends_trans
    (extends_times (extends_same (times c e) (times c e) refl) (extends_times (vertices-extend ws term g s rest r) (extends_same (times a w) (times a w) refl)))
    (extends_same _ _ (back c e (plain_vertices ws g) k a w
    ∙ ap (times e) (ap₂ times (sym (vertex_factors-plain ws term g free)) (sym (term_value-dressed ws term g))))))

-- a residue of a dressed term is one of the term's edges and vertices as they stand, for each decorated tree
pub IsResidue-dressed : (m : ℕ) (ws : List ℤ) (shape : TreeShape) (g : DecoratedTree) (term : Term) (x : ℕ) → 1 < m → is_decorated shape g ≡ true
    → IsPsiFree term → IsResidue m (dressed_term ws g term) x → IsResidue m (whole_term ws g term) x
IsResidue-dressed m ws shape g term x h d free p =
    let w = decorated_walk shape g d in
    IsResidue-extends m (dressed_term ws g term) (whole_term ws g term) x h (dressed_term-extend ws term g w.first w.rest w.walked free) p

-- ---- all terms
pub numbered_sum-extend : (ws : List ℤ) (g : DecoratedTree) (t : Term) (ts : List Term)
    → Extends (numbered_sum g (whole_term ws g) (t ∷ ts)) (contribution ws (t ∷ ts) g)
unfolding contribution
numbered_sum-extend ws g t ts =
    extends_times (extends_same (fraction (pos 1) (pos (factorial g.vertices))) (fraction (pos 1) (pos (factorial g.vertices))) refl)
    (sum-factor (edge_factors ws g) (term_factor ws g) t ts)

-- a residue of the sum over the terms, each with all edges, is one of the contribution
pub IsResidue-numbered_sum : (m : ℕ) (ws : List ℤ) (g : DecoratedTree) (t : Term) (ts : List Term) (x : ℕ) → 1 < m
    → IsResidue m (numbered_sum g (whole_term ws g) (t ∷ ts)) x → IsResidue m (contribution ws (t ∷ ts) g) x
IsResidue-numbered_sum m ws g t ts x h p =
    IsResidue-extends m (numbered_sum g (whole_term ws g) (t ∷ ts)) (contribution ws (t ∷ ts) g) x h (numbered_sum-extend ws g t ts) p

terms-extend : (ws : List ℤ) (g : DecoratedTree) (s : ℕ × ℕ) (rest : List (ℕ × ℕ)) (terms : List Term) → IsWalkedTree g s rest → AllPsiFree terms
    → Extends (sum_of_fractions (map (dressed_term ws g) terms)) (sum_of_fractions (map (whole_term ws g) terms))
terms-extend ws g s rest [] r free = extends_same _ _ refl
terms-extend ws g s rest (t ∷ ts) r free = extends_plus (dressed_term-extend ws t g s rest r free.0) (terms-extend ws g s rest ts r free.1)

-- if no term has a psi class, a residue of the sum of all dressed terms is one of the contribution, for each decorated tree
pub IsResidue-dressed_sum : (m : ℕ) (ws : List ℤ) (shape : TreeShape) (g : DecoratedTree) (t : Term) (ts : List Term) (x : ℕ) → 1 < m
    → is_decorated shape g ≡ true → AllPsiFree (t ∷ ts) → IsResidue m (numbered_sum g (dressed_term ws g) (t ∷ ts)) x → IsResidue m (contribution ws (t ∷ ts) g) x
IsResidue-dressed_sum m ws shape g t ts x h d free p =
    let w = decorated_walk shape g d in
    IsResidue-numbered_sum m ws g t ts x h
    (IsResidue-extends m (numbered_sum g (dressed_term ws g) (t ∷ ts)) (numbered_sum g (whole_term ws g) (t ∷ ts)) x h
    (extends_times (extends_same (fraction (pos 1) (pos (factorial g.vertices))) (fraction (pos 1) (pos (factorial g.vertices))) refl)
    (terms-extend ws g w.first w.rest (t ∷ ts) w.walked free)) p)
