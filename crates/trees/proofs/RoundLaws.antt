-- The walk in rounds is a walk, and comes to all that the rounds reach.
use Rattle.std.proofs.Common.{◌≡◌, ℕ, zero, suc, ◌⊎◌, Bool, true, false, not, ◌&&◌, ◌||◌, ◌==◌, if◌then◌else◌, List, [], ◌∷◌, ◌++◌, refl, sym, ap, ◌∙◌, subst, inl, inr, ⊎_elim, arith, eq-eqb}
use Rattle.std.specs.List.{flat_map}
use Rattle.lists.specs.Members.{is_member, IsIn}
use Rattle.trees.specs.Edges.{joined_by, reached_in}
use Rattle.lists.proofs.Members.{nothing_in, in_cons, from_append, from_flat_map, ComesFrom}
use Rattle.lists.proofs.Different.{member_in}
use Rattle.trees.specs.Walks.{IsWalk}
use Rattle.trees.proofs.FirstOrLater.{at_first, later}
use Rattle.trees.specs.Walks.{steps_of, after, walk_in}

after-append : (v w : List (ℕ × ℕ)) (before : List ℕ) → after (v ++ w) before ≡ after w (after v before)
after-append [] w before = refl
after-append (s ∷ v) w before = after-append v w (s.0 ∷ before)

walk_append : (v w : List (ℕ × ℕ)) (before : List ℕ) → IsWalk v before → IsWalk w (after v before) → IsWalk (v ++ w) before
walk_append [] w before h k = k
walk_append (s ∷ v) w before h k = (h.0, h.1, walk_append v w (s.0 ∷ before) h.2 k)

parts : (a b : Bool) → (a && not b) ≡ true → (a ≡ true) × (b ≡ false)
parts true true h = cc
parts true false h = (refl, refl)
parts false b h = cc

steps_walk : (es : List (ℕ × ℕ)) (before : List ℕ) → IsWalk (steps_of es before) before
steps_walk [] before = tt
steps_walk (e ∷ es) before =
    cases (is_member e.0 before && not (is_member e.1 before)) (is_member e.1 before && not (is_member e.0 before)) refl refl
    (steps_walk es (e.1 ∷ before)) (steps_walk es (e.0 ∷ before)) (steps_walk es before)
  where
    cases : (b c : Bool) → (is_member e.0 before && not (is_member e.1 before)) ≡ b → (is_member e.1 before && not (is_member e.0 before)) ≡ c
        → IsWalk (steps_of es (e.1 ∷ before)) (e.1 ∷ before) → IsWalk (steps_of es (e.0 ∷ before)) (e.0 ∷ before) → IsWalk (steps_of es before) before
        → IsWalk (if b then (e.1, e.0) ∷ steps_of es (e.1 ∷ before) else if c then (e.0, e.1) ∷ steps_of es (e.0 ∷ before) else steps_of es before) before
    cases true c p q f g h = ((parts _ _ p).1, (parts _ _ p).0, f)
    cases false true p q f g h = ((parts _ _ q).1, (parts _ _ q).0, g)
    cases false false p q f g h = h

pub walk_in_walk : (k : ℕ) (es : List (ℕ × ℕ)) (before : List ℕ) → IsWalk (walk_in k es before) before
walk_in_walk zero es before = tt
walk_in_walk (suc k) es before =
    walk_append (steps_of es before) (walk_in k es (after (steps_of es before) before)) before (steps_walk es before) (walk_in_walk k es (after (steps_of es before) before))

-- what was there is there after a walk
after_keeps : (walk : List (ℕ × ℕ)) (before : List ℕ) (v : ℕ) → is_member v before ≡ true → is_member v (after walk before) ≡ true
after_keeps [] before v h = h
after_keeps (s ∷ walk) before v h = after_keeps walk (s.0 ∷ before) v (later s.0 v (is_member v before) h)

-- an edge with one end there has both ends there afterwards
both_after : (es : List (ℕ × ℕ)) (before : List ℕ) (e : ℕ × ℕ) → IsIn e es → (is_member e.0 before ≡ true) ⊎ (is_member e.1 before ≡ true)
    → (is_member e.0 (after (steps_of es before) before) ≡ true) × (is_member e.1 (after (steps_of es before) before) ≡ true)
both_after [] before e i h = elim i [ ]
both_after (f ∷ es) before e i h =
    cases (is_member f.0 before && not (is_member f.1 before)) (is_member f.1 before && not (is_member f.0 before)) refl refl (in_cons i)
    (λ j. both_after es (f.1 ∷ before) e j (kept f.1)) (λ j. both_after es (f.0 ∷ before) e j (kept f.0)) (λ j. both_after es before e j h)
  where
    kept : (x : ℕ) → (is_member e.0 (x ∷ before) ≡ true) ⊎ (is_member e.1 (x ∷ before) ≡ true)
    kept x = ⊎_elim (λ p. inl (later x e.0 (is_member e.0 before) p)) (λ p. inr (later x e.1 (is_member e.1 before) p)) h

    neither : (a b : Bool) → (a && not b) ≡ false → (b && not a) ≡ false → (a ≡ true) ⊎ (b ≡ true) → (a ≡ true) × (b ≡ true)
    neither a b p q h = grind arith

    there_now : (x y : ℕ) (walk : List (ℕ × ℕ)) → is_member y before ≡ true
        → (is_member y (after walk (x ∷ before)) ≡ true) × (is_member x (after walk (x ∷ before)) ≡ true)
    there_now x y walk p = (after_keeps walk (x ∷ before) y (later x y (is_member y before) p), after_keeps walk (x ∷ before) x (at_first x (is_member x before)))

    cases : (b c : Bool) → (is_member f.0 before && not (is_member f.1 before)) ≡ b → (is_member f.1 before && not (is_member f.0 before)) ≡ c → (e ≡ f) ⊎ IsIn e es
        → (IsIn e es → (is_member e.0 (after (steps_of es (f.1 ∷ before)) (f.1 ∷ before)) ≡ true) × (is_member e.1 (after (steps_of es (f.1 ∷ before)) (f.1 ∷ before)) ≡ true))
        → (IsIn e es → (is_member e.0 (after (steps_of es (f.0 ∷ before)) (f.0 ∷ before)) ≡ true) × (is_member e.1 (after (steps_of es (f.0 ∷ before)) (f.0 ∷ before)) ≡ true))
        → (IsIn e es → (is_member e.0 (after (steps_of es before) before) ≡ true) × (is_member e.1 (after (steps_of es before) before) ≡ true))
        → (is_member e.0 (after (if b then (f.1, f.0) ∷ steps_of es (f.1 ∷ before) else if c then (f.0, f.1) ∷ steps_of es (f.0 ∷ before) else steps_of es before) before) ≡ true)
        × (is_member e.1 (after (if b then (f.1, f.0) ∷ steps_of es (f.1 ∷ before) else if c then (f.0, f.1) ∷ steps_of es (f.0 ∷ before) else steps_of es before) before) ≡ true)
    cases true c p q (inr j) x y z = x j
    cases false true p q (inr j) x y z = y j
    cases false false p q (inr j) x y z = z j
    cases true c p q (inl s) x y z =
        let t = there_now f.1 f.0 (steps_of es (f.1 ∷ before)) (parts _ _ p).0 in (ap (λ g. is_member g.0 (after (steps_of es (f.1 ∷ before)) (f.1 ∷ before))) s ∙ t.0, ap (λ g. is_member g.1 (after (steps_of es (f.1 ∷ before)) (f.1 ∷ before))) s ∙ t.1)
    cases false true p q (inl s) x y z =
        let t = there_now f.0 f.1 (steps_of es (f.0 ∷ before)) (parts _ _ q).0 in (ap (λ g. is_member g.0 (after (steps_of es (f.0 ∷ before)) (f.0 ∷ before))) s ∙ t.1, ap (λ g. is_member g.1 (after (steps_of es (f.0 ∷ before)) (f.0 ∷ before))) s ∙ t.0)
    cases false false p q (inl s) x y z =
        let n = neither _ _ p q (subst (λ g. (is_member g.0 before ≡ true) ⊎ (is_member g.1 before ≡ true)) s h) in (
          ap (λ g. is_member g.0 (after (steps_of es before) before)) s ∙ after_keeps (steps_of es before) before f.0 n.0,
          ap (λ g. is_member g.1 (after (steps_of es before) before)) s ∙ after_keeps (steps_of es before) before f.1 n.1,
        )

-- one more round comes last
last_round : (k : ℕ) (es : List (ℕ × ℕ)) (before : List ℕ)
    → after (walk_in (suc k) es before) before ≡ after (steps_of es (after (walk_in k es before) before)) (after (walk_in k es before) before)
last_round zero es before = after-append (steps_of es before) [] before
last_round (suc k) es before =
    let next = after (steps_of es before) before in
    after-append (steps_of es before) (walk_in (suc k) es next) before ∙ last_round k es next
    ∙ ap (λ a. after (steps_of es a) a) (sym (after-append (steps_of es before) (walk_in k es next) before))

-- the walk comes to all that the rounds reach
pub walk_reaches : (k : ℕ) (es : List (ℕ × ℕ)) (u : ℕ) {v : ℕ} → IsIn v (reached_in k es (u ∷ [])) → is_member v (after (walk_in k es (u ∷ [])) (u ∷ [])) ≡ true
walk_reaches zero es u {v = v} i = ⊎_elim (λ e. same u v (sym e)) (λ j. absurd (nothing_in j)) (in_cons i)
  where
    same : (u v : ℕ) → u ≡ v → ((u == v) || false) ≡ true
    same u v e = or_true (u == v) (eq-eqb u v e)
      where
        or_true : (b : Bool) → b ≡ true → (b || false) ≡ true
        or_true b h = grind arith
walk_reaches (suc k) es u {v = v} i =
    ap (is_member v) (last_round k es (u ∷ []))
    ∙ ⊎_elim
    (λ j. after_keeps (steps_of es (after (walk_in k es (u ∷ [])) (u ∷ []))) (after (walk_in k es (u ∷ [])) (u ∷ [])) v (walk_reaches k es u j))
    (λ j. by_edge (from_flat_map (joined_by (reached_in k es (u ∷ []))) es j) (λ w h. walk_reaches k es u h))
    (from_append (reached_in k es (u ∷ [])) (flat_map (joined_by (reached_in k es (u ∷ []))) es) i)
  where
    one : (b : Bool) (x : ℕ) → IsIn v (if b then x ∷ [] else []) → (b ≡ true) × (v ≡ x)
    one true x j = (refl, ⊎_elim (λ e. e) (λ n. absurd (nothing_in n)) (in_cons j))
    one false x j = absurd (nothing_in j)

    by_edge : ComesFrom (joined_by (reached_in k es (u ∷ []))) es v
        → ((w : ℕ) → IsIn w (reached_in k es (u ∷ [])) → is_member w (after (walk_in k es (u ∷ [])) (u ∷ [])) ≡ true)
        → is_member v (after (steps_of es (after (walk_in k es (u ∷ [])) (u ∷ []))) (after (walk_in k es (u ∷ [])) (u ∷ []))) ≡ true
    by_edge c f =
        let e = c.source in
        let r = reached_in k es (u ∷ []) in
        let a = after (walk_in k es (u ∷ [])) (u ∷ []) in
        ⊎_elim
        (λ j. let o = one (is_member e.0 r) e.1 j in
        ap (λ z. is_member z (after (steps_of es a) a)) o.1 ∙ (both_after es a e c.is_in (inl (f e.0 (member_in e.0 r o.0)))).1)
        (λ j. let o = one (is_member e.1 r) e.0 j in
        ap (λ z. is_member z (after (steps_of es a) a)) o.1 ∙ (both_after es a e c.is_in (inr (f e.1 (member_in e.1 r o.0)))).0)
        (from_append (if is_member e.0 r then e.1 ∷ [] else []) (if is_member e.1 r then e.0 ∷ [] else []) c.gives)
