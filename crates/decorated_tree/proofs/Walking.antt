-- The walk from vertex 0, one edge after the other.
use Rattle.std.proofs.Common.{◌≡◌, ◌≢◌, ℕ, zero, suc, ◌+◌, ◌<◌, ◌≤◌, Bool, true, false, ◌&&◌, ◌||◌, ◌==◌, not, nat_lt, if◌then◌else◌, List, [], ◌∷◌, ◌++◌, length, get_or, set, drop, Option, Some, None, refl, sym, ap, ◌∙◌, subst, inl, inr, ◌⊎◌, ⊎_elim, arith, eqb-true, append_assoc, length-append, length-set, get_or-set_other, get_or-set_same}
use Rattle.std.specs.List.{list_all}
use Rattle.std.proofs.lemmas.Bool.{cases_eq, and_parts}
use Rattle.std.proofs.lemmas.Bool.Decides.{nat_tests}
use Rattle.std.proofs.lemmas.List.{drop_more}
use Rattle.lists.specs.Ranges.{below}
use Rattle.trees.specs.Edges.{is_tree}
use Rattle.lists.specs.Members.{is_member, AllDifferent}
use Rattle.trees.specs.Words.{edge_between}
use Rattle.trees.specs.Walks.{steps_of, after, walk_in, IsWalk}
use Rattle.lists.proofs.Members.{each_of, in_place}
use Rattle.lists.proofs.Different.{subset_length, member-below, length-below}
use Rattle.trees.proofs.WalkLaws.{Within}
use Rattle.trees.proofs.WalkedEdges.{AlongEdges, tree_walk, length-after}
use Rattle.decorated_tree.specs.Steps.{step_by, AreWithin}

-- ---- the walk is short
different_after : (walk : List (ℕ × ℕ)) (before : List ℕ) → IsWalk walk before → AllDifferent before
    → AllDifferent (after walk before)
different_after [] before w d = d
different_after (s ∷ walk) before w d = different_after walk (s.0 ∷ before) w.2 (w.0, d)

after_below : (n : ℕ) (walk : List (ℕ × ℕ)) (before : List ℕ) → Within walk n
    → ((v : ℕ) → is_member v before ≡ true → v < n)
    → (v : ℕ) → is_member v (after walk before) ≡ true → v < n
after_below n [] before w f v m = f v m
after_below n (s ∷ walk) before w f v m = after_below n walk (s.0 ∷ before) w.1 more v m
  where
    later : (u x : ℕ) (b : Bool) → ((x == u) || b) ≡ true → (x ≡ u → ⊥) → b ≡ true
    later u x b h ne = grind (arith, nat_tests)

    more : (u : ℕ) → is_member u (s.0 ∷ before) ≡ true → u < n
    more u h =
        ⊎_elim (λ e. subst (λ z. z < n) e w.0) (λ ne. f u (later u s.0 (is_member u before) h ne)) (cases_eq s.0 u)

walk_short : (n : ℕ) (walk : List (ℕ × ℕ)) → 0 < n → IsWalk walk (0 ∷ []) → Within walk n → length walk + 1 ≤ n
walk_short n walk some w i =
    let sub = subset_length (after walk (0 ∷ [])) (below n) (different_after walk (0 ∷ []) w (refl, tt))
    (λ v m. member-below v n ∙ test v (after_below n walk (0 ∷ []) i first v m)) in
    let long = length-after walk (0 ∷ []) in
    let all = length-below n in
    omega arith
  where
    test : (v : ℕ) → v < n → nat_lt v n ≡ true
    test v h = grind (arith, nat_tests)

    first : (u : ℕ) → is_member u (0 ∷ []) ≡ true → u < n
    first u h = subst (λ z. z < n) (eqb-true 0 u (one (0 == u) h)) some
      where
        one : (b : Bool) → (b || false) ≡ true → b ≡ true
        one b h = grind arith

ends_below : (n u v : ℕ) → (nat_lt (edge_between u v).0 (edge_between u v).1 && nat_lt (edge_between u v).1 n) ≡ true
    → (u < n) × (v < n)
ends_below n u v h = (grind (arith, nat_tests), grind (arith, nat_tests))

within_along : (n : ℕ) (es walk : List (ℕ × ℕ)) → list_all (λ e. nat_lt e.0 e.1 && nat_lt e.1 n) es ≡ true
    → AlongEdges es walk → AreWithin n walk
within_along n es [] h a = tt
within_along n es (s ∷ walk) h a =
    let e = ends_below n s.0 s.1 (each_of (λ e. nat_lt e.0 e.1 && nat_lt e.1 n) es h a.0) in
    (e.0, e.1, within_along n es walk h a.1)

-- what is known of the walk of a tree
pub record TreeWalk (n : ℕ) (es : List (ℕ × ℕ)) : Type 0 where
  pub few : length (walk_in n es (0 ∷ [])) + 1 ≤ n
  pub short : length (walk_in n es (0 ∷ [])) ≤ 10
  pub within : AreWithin n (walk_in n es (0 ∷ []))
  pub ends : (i : ℕ) → i < length es → ((get_or es i (0, 0)).0 < n) × ((get_or es i (0, 0)).1 < n)

pub walk_of_tree : (n : ℕ) (es : List (ℕ × ℕ)) → n ≤ 11 → is_tree n es ≡ true → TreeWalk n es
walk_of_tree n es most t =
    let reached = and_parts _ _ t in
    let counted = and_parts _ _ reached.0 in
    let set = and_parts _ _ counted.0 in
    let count : length es + 1 ≡ n = eqb-true (length es + 1) n counted.1 in
    let w = tree_walk n es t in
    let short = walk_short n (walk_in n es (0 ∷ [])) (omega arith) w.walks w.within in
    record {
      few = short;
      short = omega arith;
      within = within_along n es (walk_in n es (0 ∷ [])) set.1 w.along;
      ends = λ i h. pair (get_or es i (0, 0)).0 (get_or es i (0, 0)).1 (each_of (λ e. nat_lt e.0 e.1 && nat_lt e.1 n) es set.1 (in_place es (0, 0) i h));
    }
  where
    pair : (u v : ℕ) → (nat_lt u v && nat_lt v n) ≡ true → (u < n) × (v < n)
    pair u v h = (grind (arith, nat_tests), grind (arith, nat_tests))

-- ---- which vertices are there
pub record AreThere (marks : List Bool) (before : List ℕ) : Type 0 where
  pub long : length marks ≡ 11
  pub at : (v : ℕ) → v < 11 → get_or marks v false ≡ is_member v before

more_there : (marks : List Bool) (before : List ℕ) (v : ℕ) → v < 11 → AreThere marks before
    → AreThere (set marks v true) (v ∷ before)
more_there marks before v h a = record {
  long = length-set marks v true ∙ a.long;
  at = λ u k. at u k (cases_eq v u);
}
  where
    new : (u : ℕ) (b : Bool) → v ≡ u → ((v == u) || b) ≡ true
    new u b e = grind (arith, nat_tests)

    old : (u : ℕ) (b : Bool) → v ≢ u → ((v == u) || b) ≡ b
    old u b ne = grind (arith, nat_tests)

    at : (u : ℕ) → u < 11 → (v ≡ u) ⊎ (v ≢ u) → get_or (set marks v true) u false ≡ ((v == u) || is_member u before)
    at u k (inl e) =
        subst (λ z. get_or (set marks v true) z false ≡ true) e
        (get_or-set_same marks v true false (let l = a.long in omega arith))
        ∙ sym (new u (is_member u before) e)
    at u k (inr ne) =
        get_or-set_other marks v u true false (λ e. ne (sym e)) ∙ a.at u k ∙ sym (old u (is_member u before) ne)

-- ---- the walk in the midst of a round
pub record IsWalking (n : ℕ) (es : List (ℕ × ℕ)) (rounds : ℕ) (rest : List (ℕ × ℕ)) (walk : List (ℕ × ℕ)) (marks : List Bool) : Type 0 where
  pub there : AreThere marks (after walk (0 ∷ []))
  pub whole : walk ++ (steps_of rest (after walk (0 ∷ [])) ++ walk_in rounds es (after (steps_of rest (after walk (0 ∷ []))) (after walk (0 ∷ [])))) ≡ walk_in n es (0 ∷ [])

step_taken : (e : ℕ × ℕ) (es : List (ℕ × ℕ)) (before : List ℕ) (s : ℕ × ℕ)
    → step_by e (is_member e.0 before) (is_member e.1 before) ≡ Some s
    → steps_of (e ∷ es) before ≡ s ∷ steps_of es (s.0 ∷ before)
step_taken e es before s h = cases (is_member e.0 before) (is_member e.1 before) h
  where
    some_is : (p q : ℕ × ℕ) → Some p ≡ Some q → p ≡ q
    some_is p q e = cc

    cases : (a b : Bool) → step_by e a b ≡ Some s
        → (if a && not b then (e.1, e.0) ∷ steps_of es (e.1 ∷ before) else if b && not a then (e.0, e.1) ∷ steps_of es (e.0 ∷ before) else steps_of es before)
        ≡ s ∷ steps_of es (s.0 ∷ before)
    cases true false h = ap (λ (t : ℕ × ℕ). t ∷ steps_of es (t.0 ∷ before)) (some_is (e.1, e.0) s h)
    cases false true h = ap (λ (t : ℕ × ℕ). t ∷ steps_of es (t.0 ∷ before)) (some_is (e.0, e.1) s h)
    cases true true h = cc
    cases false false h = cc

no_step : (e : ℕ × ℕ) (es : List (ℕ × ℕ)) (before : List ℕ)
    → step_by e (is_member e.0 before) (is_member e.1 before) ≡ None → steps_of (e ∷ es) before ≡ steps_of es before
no_step e es before h = cases (is_member e.0 before) (is_member e.1 before) h
  where
    cases : (a b : Bool) → step_by e a b ≡ None
        → (if a && not b then (e.1, e.0) ∷ steps_of es (e.1 ∷ before) else if b && not a then (e.0, e.1) ∷ steps_of es (e.0 ∷ before) else steps_of es before)
        ≡ steps_of es before
    cases true false h = cc
    cases false true h = cc
    cases true true h = refl
    cases false false h = refl

after-push : (walk : List (ℕ × ℕ)) (s : ℕ × ℕ) (before : List ℕ)
    → after (walk ++ s ∷ []) before ≡ s.0 ∷ after walk before
after-push [] s before = refl
after-push (t ∷ walk) s before = after-push walk s (t.0 ∷ before)

-- the step along the next edge, and what it leaves
pub record Stepped (n : ℕ) (es : List (ℕ × ℕ)) (rounds : ℕ) (rest walk : List (ℕ × ℕ)) (marks : List Bool) (s : ℕ × ℕ) : Type 0 where
  pub room : length walk < 10
  pub new : s.0 < 11
  pub next : IsWalking n es rounds rest (walk ++ s ∷ []) (set marks s.0 true)

step_ends : (e s : ℕ × ℕ) (a b : Bool) → step_by e a b ≡ Some s → e.0 < 11 → e.1 < 11 → s.0 < 11
step_ends e s true false h p q = subst (λ (t : ℕ × ℕ). t.0 < 11) (some_is (e.1, e.0) s h) q
  where
    some_is : (p q : ℕ × ℕ) → Some p ≡ Some q → p ≡ q
    some_is p q e = cc
step_ends e s false true h p q = subst (λ (t : ℕ × ℕ). t.0 < 11) (some_is (e.0, e.1) s h) p
  where
    some_is : (p q : ℕ × ℕ) → Some p ≡ Some q → p ≡ q
    some_is p q e = cc
step_ends e s true true h p q = cc
step_ends e s false false h p q = cc

at_edge : (n : ℕ) (es : List (ℕ × ℕ)) (rounds i : ℕ) (walk : List (ℕ × ℕ)) (marks : List Bool) → i < length es
    → IsWalking n es rounds (drop i es) walk marks
    → IsWalking n es rounds (get_or es i (0, 0) ∷ drop (i + 1) es) walk marks
at_edge n es rounds i walk marks h w = subst (λ l. IsWalking n es rounds l walk marks) (drop_more es i (0, 0) h) w

found_step : (n : ℕ) (es : List (ℕ × ℕ)) (e : ℕ × ℕ) (walk : List (ℕ × ℕ)) (marks : List Bool) (o : Option (ℕ × ℕ))
    → e.0 < 11 → e.1 < 11
    → AreThere marks (after walk (0 ∷ [])) → o ≡ step_by e (get_or marks e.0 false) (get_or marks e.1 false)
    → step_by e (is_member e.0 (after walk (0 ∷ []))) (is_member e.1 (after walk (0 ∷ []))) ≡ o
found_step n es e walk marks o p q a h =
    ap (λ b. step_by e b (is_member e.1 (after walk (0 ∷ [])))) (sym (a.at e.0 p))
    ∙ ap (λ b. step_by e (get_or marks e.0 false) b) (sym (a.at e.1 q)) ∙ sym h

stepped_at : (n : ℕ) (es : List (ℕ × ℕ)) (rounds : ℕ) (e : ℕ × ℕ) (rest walk : List (ℕ × ℕ)) (marks : List Bool) (s : ℕ × ℕ)
    → length (walk_in n es (0 ∷ [])) ≤ 10
    → e.0 < 11 → e.1 < 11 → step_by e (is_member e.0 (after walk (0 ∷ []))) (is_member e.1 (after walk (0 ∷ []))) ≡ Some s
    → IsWalking n es rounds (e ∷ rest) walk marks → Stepped n es rounds rest walk marks s
stepped_at n es rounds e rest walk marks s short p q found w =
    let before = after walk (0 ∷ []) in
    let taken = step_taken e rest before s found in
    let from = λ (st : List (ℕ × ℕ)). walk ++ (st ++ walk_in rounds es (after st before)) in
    let whole : walk ++ (s ∷ (steps_of rest (s.0 ∷ before) ++ walk_in rounds es (after (steps_of rest (s.0 ∷ before)) (s.0 ∷ before)))) ≡ walk_in n es (0 ∷ []) =
    ap from (sym taken) ∙ w.whole in
    let tail =
    steps_of rest (s.0 ∷ before) ++ walk_in rounds es (after (steps_of rest (s.0 ∷ before)) (s.0 ∷ before)) in
    let pushed = after-push walk s (0 ∷ []) in
    record {
      room = room tail whole;
      new = step_ends e s (is_member e.0 before) (is_member e.1 before) found p q;
      next = record {
        there = subst (AreThere (set marks s.0 true)) (sym pushed)
            (more_there marks before s.0 (step_ends e s (is_member e.0 before) (is_member e.1 before) found p q) w.there);
        whole = ap (λ b. (walk ++ s ∷ []) ++ (steps_of rest b ++ walk_in rounds es (after (steps_of rest b) b))) pushed
            ∙ append_assoc walk (s ∷ []) tail ∙ whole;
      };
    }
  where
    room : (tail : List (ℕ × ℕ)) → walk ++ (s ∷ tail) ≡ walk_in n es (0 ∷ []) → length walk < 10
    room tail e = let l = length-append walk (s ∷ tail) in let m = ap length e in omega arith

pub stepped : (n : ℕ) (es : List (ℕ × ℕ)) (rounds i : ℕ) (walk : List (ℕ × ℕ)) (marks : List Bool) (o : Option (ℕ × ℕ)) (s : ℕ × ℕ)
    → n ≤ 11 → is_tree n es ≡ true → i < length es
    → o
    ≡ step_by (get_or es i (0, 0)) (get_or marks (get_or es i (0, 0)).0 false) (get_or marks (get_or es i (0, 0)).1 false)
    → o ≡ Some s
    → IsWalking n es rounds (drop i es) walk marks → Stepped n es rounds (drop (i + 1) es) walk marks s
stepped n es rounds i walk marks o s most t h is some w =
    let e = get_or es i (0, 0) in
    let k = walk_of_tree n es most t in
    let ends = k.ends i h in
    let first : e.0 < 11 = (let l = ends.0 in omega arith) in
    let second : e.1 < 11 = (let l = ends.1 in omega arith) in
    stepped_at n es rounds e (drop (i + 1) es) walk marks s k.short first second
    (found_step n es e walk marks o first second w.there is ∙ some) (at_edge n es rounds i walk marks h w)

pub not_stepped : (n : ℕ) (es : List (ℕ × ℕ)) (rounds i : ℕ) (walk : List (ℕ × ℕ)) (marks : List Bool) (o : Option (ℕ × ℕ))
    → n ≤ 11 → is_tree n es ≡ true → i < length es
    → o
    ≡ step_by (get_or es i (0, 0)) (get_or marks (get_or es i (0, 0)).0 false) (get_or marks (get_or es i (0, 0)).1 false)
    → o ≡ None
    → IsWalking n es rounds (drop i es) walk marks → IsWalking n es rounds (drop (i + 1) es) walk marks
not_stepped n es rounds i walk marks o most t h is none w =
    let e = get_or es i (0, 0) in
    let k = walk_of_tree n es most t in
    let ends = k.ends i h in
    let first : e.0 < 11 = (let l = ends.0 in omega arith) in
    let second : e.1 < 11 = (let l = ends.1 in omega arith) in
    let v = at_edge n es rounds i walk marks h w in
    let before = after walk (0 ∷ []) in
    let same = no_step e (drop (i + 1) es) before (found_step n es e walk marks o first second w.there is ∙ none) in
    record { there = v.there; whole = ap (λ st. walk ++ (st ++ walk_in rounds es (after st before))) (sym same) ∙ v.whole }

pub walked : (n : ℕ) (es : List (ℕ × ℕ)) (rounds : ℕ) (walk : List (ℕ × ℕ)) (marks : List Bool) → rounds ≡ 0
    → IsWalking n es rounds [] walk marks → walk ≡ walk_in n es (0 ∷ [])
walked n es rounds walk marks e w = let v = subst (λ k. IsWalking n es k [] walk marks) e w in none walk ∙ v.whole
  where
    none : (l : List (ℕ × ℕ)) → l ≡ l ++ []
    none [] = refl
    none (x ∷ l) = ap (λ r. x ∷ r) (none l)

-- if all vertices are reached, later rounds add nothing
pub walked_all : (n : ℕ) (es : List (ℕ × ℕ)) (rounds : ℕ) (walk : List (ℕ × ℕ)) (marks : List Bool) → n ≤ 11
    → is_tree n es ≡ true → n ≤ length walk + 1
    → IsWalking n es rounds [] walk marks → walk ≡ walk_in n es (0 ∷ [])
walked_all n es rounds walk marks most t all w =
    alone (walk_in rounds es (after walk (0 ∷ []))) w.whole (walk_of_tree n es most t).few
  where
    none : (l : List (ℕ × ℕ)) → l ≡ l ++ []
    none [] = refl
    none (x ∷ l) = ap (λ r. x ∷ r) (none l)

    alone : (tail : List (ℕ × ℕ)) → walk ++ tail ≡ walk_in n es (0 ∷ []) → length (walk_in n es (0 ∷ [])) + 1 ≤ n
        → walk ≡ walk_in n es (0 ∷ [])
    alone [] e few = none walk ∙ e
    alone (x ∷ tail) e few = absurd (let l = length-append walk (x ∷ tail) in let m = ap length e in omega arith)

-- ---- colours and digits along a walk, one step after the other
pub within_at : (n : ℕ) (walk : List (ℕ × ℕ)) (i : ℕ) → AreWithin n walk → i < length walk
    → ((get_or walk i (0, 0)).0 < n) × ((get_or walk i (0, 0)).1 < n)
within_at n [] i w h = absurd (omega arith)
within_at n (s ∷ walk) zero w h = (w.0, w.1)
within_at n (s ∷ walk) (suc i) w h = within_at n walk i w.2 (omega arith)
