-- The fractions of a tree's vertices are the product of the tree's parts, with a common factor.
use Rattle.std.proofs.Common.{◌≡◌, ℕ, zero, suc, ◌-◌, ◌<◌, ◌≤◌, List, ◌∷◌, length, map, ℤ, pos, refl, sym, ap, ap₂, subst, ◌∙◌, arith}
use Rattle.arithmetic.specs.Fractions.{Fraction, fraction, times, product_of_fractions, power_of_fraction}
use Rattle.trees.specs.Decorated.{DecoratedTree}
use Rattle.classes.specs.declared.class.Class.{Class}
use Rattle.localisation.specs.Weights.{tangent_product}
use Rattle.localisation.specs.ClassValue.{ends_at, marks_at, colour_of, class_vertex}
use Rattle.regrouping.specs.Extensions.{Extends}
use Rattle.regrouping.specs.Flags.{tangent_part, vertex_parts}
use Rattle.regrouping.specs.Spread.{over, JoinsBelow}
use Rattle.regrouping.specs.TreeParts.{share_at, class_step_part, hub_part, mark_part, tree_parts, plain_vertices, AllBelow}
use Rattle.regrouping.proofs.ExtensionLaws.{extends_same, extends_trans, extends_times}
use Rattle.regrouping.proofs.VertexParts.{vertex_parts-extend}
use Rattle.regrouping.proofs.ClassPowers.{class_vertex-power}
use Rattle.regrouping.proofs.EdgeProducts.{over-suc, over-times, over-same, over-ends}
use Rattle.regrouping.proofs.Valences.{IsRootedWalk, length-ends, over-valences, valence-positive}
use Rattle.regrouping.proofs.MarkCounts.{count_of, over-counts, length-places}

-- a tree with a walk through it from vertex 0
pub record IsWalkedTree (g : DecoratedTree) (s : ℕ × ℕ) (rest : List (ℕ × ℕ)) : Type 0 where
  pub some : 0 < g.vertices
  pub joins : JoinsBelow g.vertices g.edges
  pub walk : IsRootedWalk g.vertices g.edges (s ∷ rest)
  pub degrees : length g.degrees ≡ length g.edges
  pub marks : AllBelow g.vertices g.marks

pub extends_over : (n : ℕ) (f g : ℕ → Fraction) → ((v : ℕ) → v < n → Extends (f v) (g v)) → Extends (over n f) (over n g)
extends_over zero f g h = extends_same _ _ refl
extends_over (suc n) f g h =
    extends_trans (extends_same _ _ (over-suc n f))
    (extends_trans (extends_times (extends_over n f g (λ v l. h v (omega arith))) (h n (omega arith))) (extends_same _ _ (sym (over-suc n g))))

-- a power at each vertex, less by 1 than the number of its ends
pub over-ends_less : (g : DecoratedTree) (s : ℕ × ℕ) (rest : List (ℕ × ℕ)) (f : ℕ → Fraction) → IsWalkedTree g s rest
    → over g.vertices (λ v. power_of_fraction (f v) (length (ends_at g v) - 1)) ≡ product_of_fractions (map (λ (t : ℕ × ℕ). f t.1) rest)
over-ends_less g s rest f r =
    over-same g.vertices _ _ (λ v. ap (λ k. power_of_fraction (f v) (k - 1)) (length-ends v g.colours g.edges g.degrees r.degrees))
    ∙ over-valences g.vertices g.edges s rest f r.some r.walk

over-parts : (ws : List ℤ) (g : DecoratedTree) (s : ℕ × ℕ) (rest : List (ℕ × ℕ)) → IsWalkedTree g s rest
    → over g.vertices (λ v. vertex_parts ws (colour_of g v) (ends_at g v) (length (marks_at g v))) ≡ tree_parts ws g rest
over-parts ws g s rest r =
    let n = g.vertices in
    let tangents : ℕ → Fraction = λ v. tangent_part ws (colour_of g v) (length (ends_at g v)) in
    let shares : ℕ → Fraction = λ v. product_of_fractions (map (share_at ws g v) (ends_at g v)) in
    let powers : ℕ → Fraction = λ v. power_of_fraction (mark_part ws g v) (length (marks_at g v)) in
    over-times n tangents (λ v. times (shares v) (times (hub_part ws g v) (powers v)))
    ∙ ap₂ times (over-ends_less g s rest (λ v. fraction (tangent_product ws (colour_of g v)) (pos 1)) r)
    (over-times n shares (λ v. times (hub_part ws g v) (powers v))
    ∙ ap₂ times (over-ends n (share_at ws g) g.colours g.edges g.degrees r.joins)
    (over-times n (hub_part ws g) powers
    ∙ ap (times (over n (hub_part ws g)))
    (over-same n powers (λ v. power_of_fraction (mark_part ws g v) (count_of g.marks v)) (λ v. ap (power_of_fraction (mark_part ws g v)) (length-places g.marks v))
    ∙ over-counts n (mark_part ws g) g.marks r.marks)))

pub tree_parts-extend : (ws : List ℤ) (g : DecoratedTree) (s : ℕ × ℕ) (rest : List (ℕ × ℕ)) → IsWalkedTree g s rest
    → Extends (tree_parts ws g rest) (plain_vertices ws g)
tree_parts-extend ws g s rest r =
    extends_trans (extends_same _ _ (sym (over-parts ws g s rest r)))
    (extends_over g.vertices _ _ (λ v l. vertex_parts-extend ws (colour_of g v) (ends_at g v) (length (marks_at g v))
    (subst (λ k. 1 ≤ k) (sym (length-ends v g.colours g.edges g.degrees r.degrees)) (valence-positive g.vertices g.edges s rest v r.walk l))))

-- what a class has at the vertices
pub class_vertices-spread : (ws : List ℤ) (class : Class) (g : DecoratedTree) (s : ℕ × ℕ) (rest : List (ℕ × ℕ)) → IsWalkedTree g s rest
    → over g.vertices (λ v. class_vertex ws class (colour_of g v) (length (ends_at g v))) ≡ product_of_fractions (map (class_step_part ws class g) rest)
class_vertices-spread ws class g s rest r =
    over-same g.vertices _ _ (λ v. class_vertex-power ws class (colour_of g v) (length (ends_at g v)))
    ∙ over-ends_less g s rest (λ v. class_vertex ws class (colour_of g v) 2) r
