-- Edges that are put into a list one after another: their order does not matter.
use Rattle.std.proofs.Common.{◌≡◌, ℕ, Bool, true, false, ◌&&◌, ◌||◌, ◌==◌, nat_lt, if◌then◌else◌, List, [], ◌∷◌, refl, sym, ap, ap₂, ◌∙◌, arith}
use Rattle.std.proofs.lemmas.Bool.Decides.{nat_tests}
use Rattle.trees.specs.Edges.{comes_before}
use Rattle.trees.specs.Words.{insert_edge}
use Rattle.trees.proofs.PrunedTrees.{before_one_way}

-- the first edges, put into the second ones
abbrev pub insert_all : List (ℕ × ℕ) → List (ℕ × ℕ) → List (ℕ × ℕ)
insert_all [] es = es
insert_all (f ∷ fs) es = insert_edge f (insert_all fs es)

same_edge : (e f : ℕ × ℕ) → comes_before e f ≡ false → comes_before f e ≡ false → e ≡ f
same_edge e f h k = ap₂ (λ (a b : ℕ). (a, b)) (firsts e.0 e.1 f.0 f.1 h k) (seconds e.0 e.1 f.0 f.1 h k)
  where
    firsts : (a b c d : ℕ) → (nat_lt a c || ((a == c) && nat_lt b d)) ≡ false → (nat_lt c a || ((c == a) && nat_lt d b)) ≡ false → a ≡ c
    firsts a b c d h k = grind (arith, nat_tests)

    seconds : (a b c d : ℕ) → (nat_lt a c || ((a == c) && nat_lt b d)) ≡ false → (nat_lt c a || ((c == a) && nat_lt d b)) ≡ false → b ≡ d
    seconds a b c d h k = grind (arith, nat_tests)

-- what does not come before g, while e does, comes after e
before_other : (e f g : ℕ × ℕ) → comes_before e g ≡ true → comes_before f g ≡ false → comes_before e f ≡ true
before_other e f g h k = turn e.0 e.1 f.0 f.1 g.0 g.1 h k
  where
    turn : (a b c d x y : ℕ) → (nat_lt a x || ((a == x) && nat_lt b y)) ≡ true → (nat_lt c x || ((c == x) && nat_lt d y)) ≡ false → (nat_lt a c || ((a == c) && nat_lt b d)) ≡ true
    turn a b c d x y h k = grind (arith, nat_tests)

front : (e g : ℕ × ℕ) (es : List (ℕ × ℕ)) → comes_before e g ≡ true → insert_edge e (g ∷ es) ≡ e ∷ g ∷ es
front e g es h = ap (λ (b : Bool). if b then e ∷ g ∷ es else g ∷ insert_edge e es) h

past : (e g : ℕ × ℕ) (es : List (ℕ × ℕ)) → comes_before e g ≡ false → insert_edge e (g ∷ es) ≡ g ∷ insert_edge e es
past e g es h = ap (λ (b : Bool). if b then e ∷ g ∷ es else g ∷ insert_edge e es) h

-- two edges at the start of a list
both_front : (e f : ℕ × ℕ) (es : List (ℕ × ℕ)) → insert_edge e es ≡ e ∷ es → insert_edge f es ≡ f ∷ es → insert_edge e (f ∷ es) ≡ insert_edge f (e ∷ es)
both_front e f es p q = cases (comes_before e f) (comes_before f e) refl refl
  where
    cases : (a b : Bool) → comes_before e f ≡ a → comes_before f e ≡ b → insert_edge e (f ∷ es) ≡ insert_edge f (e ∷ es)
    cases true b h k = front e f es h ∙ ap (λ l. e ∷ l) (sym q) ∙ sym (past f e es (before_one_way e f h))
    cases false true h k = past e f es h ∙ ap (λ l. f ∷ l) p ∙ sym (front f e es k)
    cases false false h k = ap₂ (λ (x y : ℕ × ℕ). insert_edge x (y ∷ es)) (same_edge e f h k) (sym (same_edge e f h k))

pub insert_edge_comm : (e f : ℕ × ℕ) (es : List (ℕ × ℕ)) → insert_edge e (insert_edge f es) ≡ insert_edge f (insert_edge e es)
insert_edge_comm e f [] = both_front e f [] refl refl
insert_edge_comm e f (g ∷ es) = cases (comes_before e g) (comes_before f g) refl refl (insert_edge_comm e f es)
  where
    one_past : (e f : ℕ × ℕ) → comes_before e g ≡ true → comes_before f g ≡ false → insert_edge e (insert_edge f (g ∷ es)) ≡ insert_edge f (insert_edge e (g ∷ es))
    one_past e f h k =
        ap (insert_edge e) (past f g es k) ∙ front e g (insert_edge f es) h ∙ ap (λ l. e ∷ l) (sym (past f g es k))
        ∙ sym (past f e (g ∷ es) (before_one_way e f (before_other e f g h k))) ∙ ap (insert_edge f) (sym (front e g es h))

    cases : (a b : Bool) → comes_before e g ≡ a → comes_before f g ≡ b → insert_edge e (insert_edge f es) ≡ insert_edge f (insert_edge e es)
        → insert_edge e (insert_edge f (g ∷ es)) ≡ insert_edge f (insert_edge e (g ∷ es))
    cases true true h k i = ap (insert_edge e) (front f g es k) ∙ both_front e f (g ∷ es) (front e g es h) (front f g es k) ∙ ap (insert_edge f) (sym (front e g es h))
    cases true false h k i = one_past e f h k
    cases false true h k i = sym (one_past f e k h)
    cases false false h k i =
        ap (insert_edge e) (past f g es k) ∙ past e g (insert_edge f es) h ∙ ap (λ l. g ∷ l) i ∙ sym (past f g (insert_edge e es) k) ∙ ap (insert_edge f) (sym (past e g es h))

-- to put an edge into the first edges or into the second ones is the same
pub insert_all-first : (e : ℕ × ℕ) (fs es : List (ℕ × ℕ)) → insert_all (insert_edge e fs) es ≡ insert_edge e (insert_all fs es)
insert_all-first e [] es = refl
insert_all-first e (f ∷ fs) es = cases (comes_before e f) (insert_all-first e fs es)
  where
    cases : (b : Bool) → insert_all (insert_edge e fs) es ≡ insert_edge e (insert_all fs es)
        → insert_all (if b then e ∷ f ∷ fs else f ∷ insert_edge e fs) es ≡ insert_edge e (insert_edge f (insert_all fs es))
    cases true h = refl
    cases false h = ap (insert_edge f) h ∙ insert_edge_comm f e (insert_all fs es)

pub insert_all-second : (e : ℕ × ℕ) (fs es : List (ℕ × ℕ)) → insert_all fs (insert_edge e es) ≡ insert_edge e (insert_all fs es)
insert_all-second e [] es = refl
insert_all-second e (f ∷ fs) es = ap (insert_edge f) (insert_all-second e fs es) ∙ insert_edge_comm f e (insert_all fs es)
