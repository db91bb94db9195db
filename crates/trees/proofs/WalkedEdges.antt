-- In a tree the steps of the walk from vertex 0 are the edges, and they come to every other vertex.
use Rattle.std.proofs.Common.{◌≡◌, ◌≢◌, ℕ, zero, suc, ◌+◌, ◌<◌, ◌≤◌, Bool, true, false, ◌&&◌, ◌||◌, ◌==◌, not, nat_lt, if◌then◌else◌, List, [], ◌∷◌, ◌++◌, length, map, sym, ap, ◌∙◌, subst, ⊎_elim, arith, eqb-true, ltb-true}
use Rattle.std.proofs.lemmas.List.{length-map}
use Rattle.std.specs.List.{list_all}
use Rattle.std.proofs.lemmas.Bool.{cases_eq, and_parts}
use Rattle.std.proofs.lemmas.Bool.Decides.{nat_tests}
use Rattle.lists.specs.Ranges.{below}
use Rattle.lists.specs.Members.{is_member, IsIn, here, there, EachOnce}
use Rattle.trees.specs.Edges.{reached_in, is_tree}
use Rattle.trees.specs.Words.{edge_between, touches}
use Rattle.trees.specs.Walks.{steps_of, after, walk_in, IsWalk}
use Rattle.lists.proofs.Members.{nothing_in, in_cons, each_of, all_there}
use Rattle.lists.proofs.Ranges.{in_below}
use Rattle.trees.proofs.PrunedTrees.{AllUpward}
use Rattle.lists.proofs.Different.{subset_length, member-below, different-below, length-below, member_in}
use Rattle.trees.proofs.Connected.{between_comm}
use Rattle.trees.proofs.TreeLaws.{upward_edge, upward_from}
use Rattle.trees.proofs.WalkLaws.{Within, is_walked, now_there, still_there, apart}
use Rattle.trees.proofs.RoundLaws.{walk_in_walk, walk_reaches}

-- ---- steps and edges
-- the edge of a step
abbrev pub step_edge : ℕ × ℕ → ℕ × ℕ
step_edge s = edge_between s.0 s.1

-- each step of a walk goes along an edge
abbrev pub AlongEdges : List (ℕ × ℕ) → List (ℕ × ℕ) → Type 0
AlongEdges es [] = Unit {0}
AlongEdges es (s ∷ walk) = IsIn (step_edge s) es × AlongEdges es walk

along_append : (es v w : List (ℕ × ℕ)) → AlongEdges es v → AlongEdges es w → AlongEdges es (v ++ w)
along_append es [] w h k = k
along_append es (s ∷ v) w h k = (h.0, along_append es v w h.1 k)

steps_along : (all es : List (ℕ × ℕ)) (before : List ℕ) → AllUpward es → ((e : ℕ × ℕ) → IsIn e es → IsIn e all) → AlongEdges all (steps_of es before)
steps_along all [] before up f = tt
steps_along all (e ∷ es) before up f =
    cases (is_member e.0 before && not (is_member e.1 before)) (is_member e.1 before && not (is_member e.0 before))
    (subst (λ z. IsIn z all) (sym (between_comm e.1 e.0 ∙ upward_edge e up.0)) (f e here))
    (subst (λ z. IsIn z all) (sym (upward_edge e up.0)) (f e here))
    (steps_along all es (e.1 ∷ before) up.1 (λ g i. f g (there i)))
    (steps_along all es (e.0 ∷ before) up.1 (λ g i. f g (there i)))
    (steps_along all es before up.1 (λ g i. f g (there i)))
  where
    cases : (b c : Bool) → IsIn (edge_between e.1 e.0) all → IsIn (edge_between e.0 e.1) all
        → AlongEdges all (steps_of es (e.1 ∷ before)) → AlongEdges all (steps_of es (e.0 ∷ before)) → AlongEdges all (steps_of es before)
        → AlongEdges all (if b then (e.1, e.0) ∷ steps_of es (e.1 ∷ before) else if c then (e.0, e.1) ∷ steps_of es (e.0 ∷ before) else steps_of es before)
    cases true c i j x y z = (i, x)
    cases false true i j x y z = (j, y)
    cases false false i j x y z = z

walk_along : (k : ℕ) (es : List (ℕ × ℕ)) (before : List ℕ) → AllUpward es → AlongEdges es (walk_in k es before)
walk_along zero es before up = tt
walk_along (suc k) es before up =
    along_append es (steps_of es before) (walk_in k es (after (steps_of es before) before)) (steps_along es es before up (λ e i. i))
    (walk_along k es (after (steps_of es before) before) up)

pub along_in : (es walk : List (ℕ × ℕ)) → AlongEdges es walk → (e : ℕ × ℕ) → IsIn e (map step_edge walk) → IsIn e es
along_in es [] h e i = absurd (nothing_in i)
along_in es (s ∷ walk) h e i = ⊎_elim (λ same. subst (λ z. IsIn z es) (sym same) h.0) (λ j. along_in es walk h.1 e j) (in_cons i)

-- no step goes along an edge between vertices that were there
new_edge : (walk : List (ℕ × ℕ)) (before : List ℕ) (u v : ℕ) (e : ℕ × ℕ) → IsWalk walk before → is_member u before ≡ true → is_member v before ≡ true
    → IsIn e (map step_edge walk) → edge_between u v ≢ e
new_edge [] before u v e w p q i = absurd (nothing_in i)
new_edge (s ∷ walk) before u v e w p q i =
    ⊎_elim (λ same. λ t. other s.0 s.1 (apart u s.0 before p w.0) (apart v s.0 before q w.0) (t ∙ same))
    (λ j. new_edge walk (s.0 ∷ before) u v e w.2 (still_there u s.0 before p) (still_there v s.0 before q) j) (in_cons i)
  where
    at_end : (a b : ℕ) → touches a (edge_between a b) ≡ true
    at_end a b = grind (arith, nat_tests)

    not_at : (a : ℕ) → u ≢ a → v ≢ a → touches a (edge_between u v) ≡ false
    not_at a h k = grind (arith, nat_tests)

    other : (a b : ℕ) → u ≢ a → v ≢ a → edge_between u v ≡ edge_between a b → ⊥
    other a b h k t = absurd (let x : true ≡ false = sym (at_end a b) ∙ ap (touches a) (sym t) ∙ not_at a h k in cc)

pub edges_once : (walk : List (ℕ × ℕ)) (before : List ℕ) → IsWalk walk before → EachOnce (map step_edge walk)
edges_once [] before w = tt
edges_once (s ∷ walk) before w =
    (λ e i. new_edge walk (s.0 ∷ before) s.0 s.1 e w.2 (now_there s.0 before) (still_there s.1 s.0 before w.1) i, edges_once walk (s.0 ∷ before) w.2)

pub length-after : (walk : List (ℕ × ℕ)) (before : List ℕ) → length (after walk before) ≡ length walk + length before
length-after [] before = omega arith
length-after (s ∷ walk) before = let h = length-after walk (s.0 ∷ before) in omega arith

after_walked : (walk : List (ℕ × ℕ)) (before : List ℕ) (v : ℕ) → is_member v (after walk before) ≡ true → is_member v before ≡ false → is_walked v walk ≡ true
after_walked [] before v h k = cc
after_walked (s ∷ walk) before v h k = step s.0 (is_walked v walk) (λ ne. after_walked walk (s.0 ∷ before) v h (new s.0 (is_member v before) k ne))
  where
    new : (x : ℕ) (b : Bool) → b ≡ false → (x ≡ v → ⊥) → ((x == v) || b) ≡ false
    new x b k ne = grind (arith, nat_tests)

    step : (x : ℕ) (b : Bool) → ((x ≡ v → ⊥) → b ≡ true) → ((x == v) || b) ≡ true
    step x b f = ⊎_elim (λ e. yes e) (λ ne. later (f ne)) (cases_eq x v)
      where
        yes : x ≡ v → ((x == v) || b) ≡ true
        yes e = grind (arith, nat_tests)

        later : b ≡ true → ((x == v) || b) ≡ true
        later h = grind arith

steps_within : (n : ℕ) (es walk : List (ℕ × ℕ)) → list_all (λ e. nat_lt e.0 e.1 && nat_lt e.1 n) es ≡ true → AlongEdges es walk → Within walk n
steps_within n es [] h a = tt
steps_within n es (s ∷ walk) h a = (first s.0 s.1 (each_of (λ e. nat_lt e.0 e.1 && nat_lt e.1 n) es h a.0), steps_within n es walk h a.1)
  where
    first : (u v : ℕ) → (nat_lt (edge_between u v).0 (edge_between u v).1 && nat_lt (edge_between u v).1 n) ≡ true → u < n
    first u v h = grind (arith, nat_tests)

-- the walk of a tree
pub record IsTreeWalk (n : ℕ) (es walk : List (ℕ × ℕ)) : Type 0 where
  pub walks : IsWalk walk (0 ∷ [])
  pub within : Within walk n
  pub reaches : (v : ℕ) → v < n → 0 ≢ v → is_walked v walk ≡ true
  pub along : AlongEdges es walk
  pub covers : (e : ℕ × ℕ) → IsIn e es → IsIn e (map step_edge walk)

pub tree_walk : (n : ℕ) (es : List (ℕ × ℕ)) → is_tree n es ≡ true → IsTreeWalk n es (walk_in n es (0 ∷ []))
tree_walk n es t =
    let reached = and_parts _ _ t in
    let counted = and_parts _ _ reached.0 in
    let set = and_parts _ _ counted.0 in
    let walk = walk_in n es (0 ∷ []) in
    let walks = walk_in_walk n es (0 ∷ []) in
    let along = walk_along n es (0 ∷ []) (upward_from n es set.1) in
    let at : (v : ℕ) → v < n → is_member v (after walk (0 ∷ [])) ≡ true = λ v h.
    walk_reaches n es 0 (member_in v (reached_in n es (0 ∷ []))
    (each_of (λ w. is_member w (reached_in n es (0 ∷ []))) (below n) reached.1 (in_below n v h))) in
    let count : length es + 1 ≡ n = eqb-true (length es + 1) n counted.1 in
    let long : length (below n) ≤ length (after walk (0 ∷ [])) =
    subset_length (below n) (after walk (0 ∷ [])) (different-below n)
    (λ v m. at v (ltb-true v n (sym (member-below v n) ∙ m))) in
    record {
      walks = walks;
      within = steps_within n es walk set.1 along;
      reaches = λ v h ne. after_walked walk (0 ∷ []) v (at v h) (other v ne);
      along = along;
      covers = all_there (map step_edge walk) es (edges_once walk (0 ∷ []) walks) (along_in es walk along) (enough walk count long);
    }
  where
    enough : (walk : List (ℕ × ℕ)) → length es + 1 ≡ n → length (below n) ≤ length (after walk (0 ∷ [])) → length es ≤ length (map step_edge walk)
    enough walk count long = let a = length-after walk (0 ∷ []) in let b = length-below n in let c = length-map walk step_edge in omega arith

    other : (v : ℕ) → 0 ≢ v → ((0 == v) || false) ≡ false
    other v ne = grind (arith, nat_tests)
