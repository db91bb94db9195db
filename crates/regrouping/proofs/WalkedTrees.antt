-- Each decorated tree has a walk through it, as the regrouping needs it.
use Rattle.std.proofs.Common.{◌<◌, ℤ, drop, ◌≡◌, ◌≢◌, ℕ, ◌+◌, true, false, ◌&&◌, nat_lt, if◌then◌else◌, List, [], ◌∷◌, map, refl, sym, ap, subst, ◌∙◌, ⊎_elim, arith, IsPermutation, ltb-true}
use Rattle.std.specs.List.{list_all}
use Rattle.std.specs.Prelude.{sum_by}
use Rattle.std.proofs.lemmas.List.Sums.{sum_by-cons}
use Rattle.std.proofs.lemmas.List.Sorted.{sum_by-IsPermutation}
use Rattle.trees.specs.Edges.{is_increasing, comes_before, is_tree}
use Rattle.trees.specs.Words.{degree_of, touches}
use Rattle.trees.specs.Walks.{walk_in}
use Rattle.trees.specs.Decorated.{DecoratedTree, TreeShape, is_decorated}
use Rattle.lists.specs.Members.{IsIn, EachOnce}
use Rattle.lists.proofs.Members.{permutation_from_members, in_cons}
use Rattle.std.proofs.lemmas.Bool.{and_parts}
use Rattle.trees.proofs.AllTrees.{parts}
use Rattle.trees.proofs.PrunedTrees.{before_trans, before_one_way, increasing-parts}
use Rattle.trees.proofs.WalkLaws.{is_walked}
use Rattle.trees.proofs.WalkedEdges.{step_edge, IsTreeWalk, along_in, edges_once, tree_walk}
use Rattle.arithmetic.specs.Fractions.{IsResidue}
use Rattle.classes.specs.declared.class.Term.{Term}
use Rattle.localisation.specs.Contribution.{contribution}
use Rattle.regrouping.specs.TermParts.{AllPsiFree, contribution_parts}
use Rattle.regrouping.proofs.Contributions.{IsResidue-parts}
use Rattle.regrouping.specs.Spread.{JoinsBelow}
use Rattle.regrouping.specs.TreeParts.{AllBelow}
use Rattle.regrouping.proofs.Valences.{IsRootedWalk}
use Rattle.regrouping.proofs.TreeProducts.{IsWalkedTree}

-- ---- edges in order stand once
comes_first : (e : ℕ × ℕ) (es : List (ℕ × ℕ)) (f : ℕ × ℕ) → is_increasing (e ∷ es) ≡ true → IsIn f es → comes_before e f ≡ true
comes_first e [] f h i = elim i [ ]
comes_first e (g ∷ es) f h i =
    let two = increasing-parts e g es h in
    ⊎_elim (λ same. subst (λ x. comes_before e x ≡ true) (sym same) two.0)
    (λ j. before_trans e g f two.0 (comes_first g es f two.1 j)) (in_cons i)

not_before_itself : (e f : ℕ × ℕ) → comes_before e f ≡ true → e ≢ f
not_before_itself e f h same =
    let one_way = before_one_way e f h in
    let back : comes_before f e ≡ true = subst (λ x. comes_before x e ≡ true) same (subst (λ x. comes_before e x ≡ true) (sym same) h) in
    absurd (let x : true ≡ false = sym back ∙ one_way in cc)

increasing_once : (es : List (ℕ × ℕ)) → is_increasing es ≡ true → EachOnce es
increasing_once [] h = tt
increasing_once (e ∷ []) h = (λ f i. absurd (elim i [ ]), tt)
increasing_once (e ∷ f ∷ es) h =
    (λ g i. not_before_itself e g (comes_first e (f ∷ es) g h i), increasing_once (f ∷ es) (increasing-parts e f es h).1)

-- ---- the valence does not depend on the order of the edges
degree-sum : (v : ℕ) (es : List (ℕ × ℕ)) → degree_of v es ≡ sum_by (λ e. if touches v e then 1 else 0) es
degree-sum v [] = refl
degree-sum v (e ∷ es) = ap (λ k. (if touches v e then 1 else 0) + k) (degree-sum v es) ∙ sym (sum_by-cons (λ e. if touches v e then 1 else 0) e es)

degree-permuted : (v : ℕ) (es fs : List (ℕ × ℕ)) → IsPermutation fs es → degree_of v es ≡ degree_of v fs
degree-permuted v es fs p = degree-sum v es ∙ sum_by-IsPermutation (λ e. if touches v e then 1 else 0) fs es p ∙ sym (degree-sum v fs)

-- ---- bounds
joins_from : (n : ℕ) (es : List (ℕ × ℕ)) → list_all (λ e. nat_lt e.0 e.1 && nat_lt e.1 n) es ≡ true → JoinsBelow n es
joins_from n [] h = tt
joins_from n (e ∷ es) h =
    let two = and_parts (nat_lt e.0 e.1 && nat_lt e.1 n) (list_all (λ f. nat_lt f.0 f.1 && nat_lt f.1 n) es) h in
    let a = ltb-true e.0 e.1 (and_parts (nat_lt e.0 e.1) (nat_lt e.1 n) two.0).0 in
    let b = ltb-true e.1 n (and_parts (nat_lt e.0 e.1) (nat_lt e.1 n) two.0).1 in
    (omega arith, b, omega arith, joins_from n es two.1)

below_from : (n : ℕ) (vs : List ℕ) → list_all (λ v. nat_lt v n) vs ≡ true → AllBelow n vs
below_from n [] h = tt
below_from n (v ∷ vs) h =
    let two = and_parts (nat_lt v n) (list_all (λ u. nat_lt u n) vs) h in (ltb-true v n two.0, below_from n vs two.1)

-- ---- the walk of a tree
pub rooted : (n : ℕ) (es walk : List (ℕ × ℕ)) → is_increasing es ≡ true → IsTreeWalk n es walk → IsRootedWalk n es walk
rooted n es walk inc t = record {
  walks = t.walks;
  within = t.within;
  reaches = t.reaches;
  edges = λ v. degree-permuted v es (map step_edge walk)
      (permutation_from_members (map step_edge walk) es (edges_once walk (0 ∷ []) t.walks) (increasing_once es inc) (along_in es walk t.along) t.covers);
}

-- a walk through a tree, from its first step on
pub record WalkThrough (g : DecoratedTree) (walk : List (ℕ × ℕ)) : Type 0 where
  pub first : ℕ × ℕ
  pub rest : List (ℕ × ℕ)
  pub is : walk ≡ first ∷ rest
  pub walked : IsWalkedTree g first rest

-- any walk of a decorated tree
pub walked_tree : (s : TreeShape) (g : DecoratedTree) (walk : List (ℕ × ℕ)) → is_decorated s g ≡ true → IsTreeWalk g.vertices g.edges walk → WalkThrough g walk
walked_tree s g [] d t = absurd (let h = (parts s g d).least in let x : is_walked 1 [] ≡ true = t.reaches 1 (omega arith) (omega arith) in cc)
walked_tree s g (first ∷ rest) d t =
    let p = parts s g d in
    let least = p.least in
    let set = edges_of g.vertices g.edges p.tree in
    record {
      first = first;
      rest = rest;
      is = refl;
      walked = record {
        some = omega arith;
        joins = joins_from g.vertices g.edges set.1;
        walk = rooted g.vertices g.edges (first ∷ rest) set.0 t;
        degrees = p.degrees;
        marks = below_from g.vertices g.marks p.marks_within;
      };
    }
  where
    edges_of : (n : ℕ) (es : List (ℕ × ℕ)) → is_tree n es ≡ true → (is_increasing es ≡ true) × (list_all (λ e. nat_lt e.0 e.1 && nat_lt e.1 n) es ≡ true)
    edges_of n es h = let a = and_parts _ _ h in let b = and_parts _ _ a.0 in and_parts _ _ b.0

-- the walk in rounds is one
pub decorated_walk : (s : TreeShape) (g : DecoratedTree) → is_decorated s g ≡ true → WalkThrough g (walk_in g.vertices g.edges (0 ∷ []))
decorated_walk s g d = walked_tree s g (walk_in g.vertices g.edges (0 ∷ [])) d (tree_walk g.vertices g.edges (parts s g d).tree)

-- a residue of the sum of products of parts is that of the contribution, for the walk of a decorated tree
pub IsResidue-decorated : (m : ℕ) (ws : List ℤ) (s : TreeShape) (g : DecoratedTree) (t : Term) (ts : List Term) (x : ℕ) → 1 < m → is_decorated s g ≡ true
    → AllPsiFree (t ∷ ts) → IsResidue m (contribution_parts ws (t ∷ ts) g (drop 1 (walk_in g.vertices g.edges (0 ∷ [])))) x
    → IsResidue m (contribution ws (t ∷ ts) g) x
IsResidue-decorated m ws s g t ts x h d free p =
    let w = decorated_walk s g d in
    IsResidue-parts m ws g w.first w.rest t ts x h w.walked free
    (subst (λ rest. IsResidue m (contribution_parts ws (t ∷ ts) g rest) x) (ap (drop 1) w.is) p)
