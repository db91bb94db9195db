-- Texts of trees and refusals.
use Rattle.std.proofs.Common.{◌≡◌, ℕ, true, false, List, Result, Err, refl, sym, ap, ◌∙◌, arith}
use Rattle.trees.specs.Decorated.{DecoratedTree, TreeShape, is_decorated}
use Rattle.trees.specs.Texts.{tree_text}
use Rattle.decorated_tree.specs.declared.tree.Tree.{Tree}
use Rattle.decorated_tree.specs.Shapes.{within_limits}
use Rattle.tree_text.specs.Grammar.{IsText, IsLongestBeginning, IsTextOfTree}
use Rattle.tree_text.specs.Refusals.{IsRefusal}
use Rattle.tree_text.specs.declared.error.TreeTextError.{TreeTextError}
use Rattle.tree_text.specs.declared.error.TreeTextError.TheVariants.{Syntax, NotOfShape}
use Rattle.tree_text.specs.declared.parts.Parts.{Parts}
use Rattle.tree_text.specs.Steps.{parts_view, IsTextOfParts, IsRefusedAt}
use Rattle.tree_text.proofs.Readings.{parts_again}
use Rattle.tree_text.proofs.Trees.{has_text}

-- a text that is not of the grammar is that of no tree
pub no_text_of_tree : (s : TreeShape) (text : List ℕ) (place : ℕ) → within_limits s ≡ true → IsRefusedAt text place
    → (g : DecoratedTree) → is_decorated s g ≡ true → text ≡ tree_text g → ⊥
no_text_of_tree s text place within r g h is = r.none (record { parts = g; has = has_text s g within h; is = is })

pub not_of_tree : (s : TreeShape) (text : List ℕ) (place : ℕ) → within_limits s ≡ true → IsRefusedAt text place → IsTextOfTree s text → ⊥
not_of_tree s text place within r t = no_text_of_tree s text place within r t.tree t.decorated t.is

-- a text of the grammar is that of no other tree than its parts give
pub only_parts : (s : TreeShape) (text : List ℕ) (p : Parts) → within_limits s ≡ true → IsTextOfParts text p
    → (g : DecoratedTree) → is_decorated s g ≡ true → text ≡ tree_text g → parts_view p ≡ g
only_parts s text p within t g h is = parts_again text p g t (has_text s g within h) is

pub no_tree_of_parts : (s : TreeShape) (text : List ℕ) (p : Parts) → within_limits s ≡ true → IsTextOfParts text p
    → is_decorated s (parts_view p) ≡ false → (g : DecoratedTree) → is_decorated s g ≡ true → text ≡ tree_text g → ⊥
no_tree_of_parts s text p within t other g h is =
    let e : true ≡ false = sym h ∙ ap (is_decorated s) (sym (only_parts s text p within t g h is)) ∙ other in absurd (cc)

pub not_of_shape : (s : TreeShape) (text : List ℕ) (p : Parts) → within_limits s ≡ true → IsTextOfParts text p
    → is_decorated s (parts_view p) ≡ false → IsTextOfTree s text → ⊥
not_of_shape s text p within t other x = no_tree_of_parts s text p within t other x.tree x.decorated x.is

-- ---- each text has one answer

-- a text has one longest beginning
one_place : (text : List ℕ) (i k : ℕ) → IsLongestBeginning text i → IsLongestBeginning text k → i ≡ k
one_place text i k a b =
    let x = a.longest k b.within b.begins in
    let y = b.longest i a.within a.begins in
    omega arith

abbrev pub failed : TreeTextError → Result Tree TreeTextError
failed e = Err e

pub syntax_only : (s : TreeShape) (text : List ℕ) (place : ℕ) → IsRefusedAt text place → (error : TreeTextError) → IsRefusal s text error
    → failed (Syntax place) ≡ failed error
syntax_only s text place r (Syntax k) h = ap (λ (i : ℕ). failed (Syntax i)) (one_place text place k r.longest h.1)
syntax_only s text place r NotOfShape h = absurd (r.none h.0)

pub shape_only : (s : TreeShape) (text : List ℕ) → IsText text → (error : TreeTextError) → IsRefusal s text error
    → failed NotOfShape ≡ failed error
shape_only s text t (Syntax k) h = absurd (h.0 t)
shape_only s text t NotOfShape h = refl

-- a text of a tree of the shape has no refusal
pub tree_only : (s : TreeShape) (text : List ℕ) → IsText text → IsTextOfTree s text → (error : TreeTextError) → IsRefusal s text error → ⊥
tree_only s text t x (Syntax k) h = h.0 t
tree_only s text t x NotOfShape h = h.1 x

pub text_of_parts : (text : List ℕ) (p : Parts) → IsTextOfParts text p → IsText text
text_of_parts text p t = record { parts = parts_view p; has = t.has; is = t.is }
