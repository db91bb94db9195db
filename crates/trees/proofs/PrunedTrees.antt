-- The tree of the word of a tree is that tree: the tree is taken apart leaf by leaf, and the tree of the word is put together from the
-- same edges in the opposite order.
use Rattle.std.proofs.Common.{◌≡◌, ◌≢◌, ℕ, zero, suc, ◌+◌, ◌<◌, Bool, true, false, ◌||◌, ◌==◌, nat_lt, if◌then◌else◌, List, [], ◌∷◌, length, refl, sym, ap, ◌∙◌, subst, arith, zero-add, eqb-true, ltb-true, le-ltb}
use Rattle.std.proofs.lemmas.Bool.{and_from, and_parts}
use Rattle.std.proofs.lemmas.Bool.Decides.{nat_tests}
use Rattle.trees.specs.Edges.{comes_before, is_increasing}
use Rattle.lists.specs.Members.{is_member, count_in, without, AllDifferent}
use Rattle.trees.specs.Words.{edge_between, insert_edge, first_leaf, last_edge, decoded_on, touches, degree_of, other_end, neighbour_of, cut_off, first_end, encoded_on, Fits}
use Rattle.lists.proofs.Different.{count_absent, different-without, length-without, member-without_other, member-without_same, member_of_without}
use Rattle.trees.proofs.DecodedWords.{degree-decoded, degree-insert, first_end-decoded, touches-between}

-- ---- the tree of the word of a tree
-- the tree is taken apart leaf by leaf, always the smallest leaf first
abbrev pub IsPruned : ℕ → List ℕ → List (ℕ × ℕ) → Type 0
IsPruned zero vs es = (length vs ≡ 2) × (es ≡ last_edge vs)
IsPruned (suc k) vs es =
    (is_member (first_end vs es) vs ≡ true) × (degree_of (first_end vs es) es ≡ 1)
    × (is_member (neighbour_of (first_end vs es) es) vs ≡ true) × (first_end vs es ≢ neighbour_of (first_end vs es) es)
    × IsPruned k (without (first_end vs es) vs) (cut_off (first_end vs es) es)

-- each edge has its smaller end first
abbrev pub AllUpward : List (ℕ × ℕ) → Type 0
AllUpward [] = Unit {0}
AllUpward (e ∷ es) = (nat_lt e.0 e.1 ≡ true) × AllUpward es

pub before_trans : (e f g : ℕ × ℕ) → comes_before e f ≡ true → comes_before f g ≡ true → comes_before e g ≡ true
before_trans e f g h k = grind (arith, nat_tests)

pub before_one_way : (e f : ℕ × ℕ) → comes_before e f ≡ true → comes_before f e ≡ false
before_one_way e f h = grind (arith, nat_tests)

-- an edge is given by one end and the other
pub edge-other_end : (l : ℕ) (e : ℕ × ℕ) → nat_lt e.0 e.1 ≡ true → touches l e ≡ true → edge_between l (other_end l e) ≡ e
edge-other_end l e h t = cases (e.0 == l) refl
  where
    first : (l a b : ℕ) → (a == l) ≡ true → nat_lt a b ≡ true → edge_between l b ≡ (a, b)
    first l a b h k = subst (λ z. edge_between z b ≡ (a, b)) (eqb-true a l h) (ap (λ (t : Bool). if t then (a, b) else (b, a)) k)

    other : (s t : Bool) → s ≡ false → (s || t) ≡ true → t ≡ true
    other s t h k = grind arith

    second : (l a b : ℕ) → (a == l) ≡ false → ((a == l) || (b == l)) ≡ true → nat_lt a b ≡ true → edge_between l a ≡ (a, b)
    second l a b h t k =
        let e : b ≡ l = eqb-true b l (other (a == l) (b == l) h t) in
        let less : a < b = ltb-true a b k in
        subst (λ z. edge_between z a ≡ (a, b)) e (ap (λ (t : Bool). if t then (b, a) else (a, b)) (le-ltb b a (omega arith)))

    cases : (b : Bool) → (e.0 == l) ≡ b → edge_between l (if b then e.1 else e.0) ≡ e
    cases true c = first l e.0 e.1 c h
    cases false c = second l e.0 e.1 c t h

-- the edge at a vertex with one edge comes after what comes before all edges
before_neighbour : (l : ℕ) (e : ℕ × ℕ) (es : List (ℕ × ℕ)) → is_increasing (e ∷ es) ≡ true → AllUpward es → degree_of l es ≡ 1
    → comes_before e (edge_between l (neighbour_of l es)) ≡ true
before_neighbour l e [] s up d = absurd (omega arith)
before_neighbour l e (f ∷ fs) s up d =
    cases (touches l f) refl (before_neighbour l f fs)
  where
    cases : (b : Bool) → touches l f ≡ b
        → (is_increasing (f ∷ fs) ≡ true → AllUpward fs → degree_of l fs ≡ 1 → comes_before f (edge_between l (neighbour_of l fs)) ≡ true)
        → comes_before e (edge_between l (if b then other_end l f else neighbour_of l fs)) ≡ true
    cases true c h = ap (λ g. comes_before e g) (edge-other_end l f up.0 c) ∙ (and_parts _ _ s).0
    cases false c h =
        before_trans e f (edge_between l (neighbour_of l fs)) (and_parts _ _ s).0
        (h (and_parts _ _ s).1 up.1 (sym (zero-add (degree_of l fs)) ∙ ap (λ (b : Bool). (if b then 1 else 0) + degree_of l fs) (sym c) ∙ d))

-- without its first edge an increasing list increases
pub increasing-rest : (e : ℕ × ℕ) (es : List (ℕ × ℕ)) → is_increasing (e ∷ es) ≡ true → is_increasing es ≡ true
increasing-rest e [] s = refl
increasing-rest e (f ∷ fs) s = (and_parts _ _ s).1

-- to put back the edge that was cut off
insert-cut_off : (l : ℕ) (es : List (ℕ × ℕ)) → is_increasing es ≡ true → AllUpward es → degree_of l es ≡ 1
    → insert_edge (edge_between l (neighbour_of l es)) (cut_off l es) ≡ es
insert-cut_off l [] s up d = absurd (omega arith)
insert-cut_off l (e ∷ es) s up d =
    cases (touches l e) refl (λ k. insert-cut_off l es (increasing-rest e es s) up.1 k) (λ k. before_neighbour l e es s up.1 k)
  where
    front : (e : ℕ × ℕ) (es : List (ℕ × ℕ)) → is_increasing (e ∷ es) ≡ true → insert_edge e es ≡ e ∷ es
    front e [] s = refl
    front e (f ∷ fs) s = ap (λ (b : Bool). if b then e ∷ f ∷ fs else f ∷ insert_edge e fs) (and_parts _ _ s).0

    cases : (b : Bool) → touches l e ≡ b
        → (degree_of l es ≡ 1 → insert_edge (edge_between l (neighbour_of l es)) (cut_off l es) ≡ es)
        → (degree_of l es ≡ 1 → comes_before e (edge_between l (neighbour_of l es)) ≡ true)
        → insert_edge (edge_between l (if b then other_end l e else neighbour_of l es)) (if b then es else e ∷ cut_off l es) ≡ e ∷ es
    cases true c h k = ap (λ g. insert_edge g es) (edge-other_end l e up.0 c) ∙ front e es s
    cases false c h k =
        let one : degree_of l es ≡ 1 = sym (zero-add (degree_of l es)) ∙ ap (λ (b : Bool). (if b then 1 else 0) + degree_of l es) (sym c) ∙ d in
        let g = edge_between l (neighbour_of l es) in
        ap (λ (b : Bool). if b then g ∷ e ∷ cut_off l es else e ∷ insert_edge g (cut_off l es)) (before_one_way e g (k one))
        ∙ ap (λ z. e ∷ z) (h one)

pub upward-cut_off : (l : ℕ) (es : List (ℕ × ℕ)) → AllUpward es → AllUpward (cut_off l es)
upward-cut_off l [] up = tt
upward-cut_off l (e ∷ es) up = cases (touches l e) (upward-cut_off l es up.1)
  where
    cases : (b : Bool) → AllUpward (cut_off l es) → AllUpward (if b then es else e ∷ cut_off l es)
    cases true h = up.1
    cases false h = (up.0, h)

pub increasing-parts : (e f : ℕ × ℕ) (es : List (ℕ × ℕ)) → is_increasing (e ∷ f ∷ es) ≡ true → (comes_before e f ≡ true) × (is_increasing (f ∷ es) ≡ true)
increasing-parts e f es s = and_parts (comes_before e f) (is_increasing (f ∷ es)) s

-- without its first edge a list of edges keeps its order, also after what comes before it
increasing-cut_off : (l : ℕ) (e : ℕ × ℕ) (es : List (ℕ × ℕ)) → is_increasing (e ∷ es) ≡ true → is_increasing (e ∷ cut_off l es) ≡ true
increasing-cut_off l e [] s = s
increasing-cut_off l e (f ∷ es) s =
    cases (touches l f) (skip e f es (increasing-parts e f es s)) (increasing-cut_off l f es (increasing-parts e f es s).1)
  where
    skip : (e f : ℕ × ℕ) (es : List (ℕ × ℕ)) → (comes_before e f ≡ true) × (is_increasing (f ∷ es) ≡ true) → is_increasing (e ∷ es) ≡ true
    skip e f [] p = refl
    skip e f (g ∷ es) p = and_from _ _ (before_trans e f g p.0 (increasing-parts f g es p.1).0) (increasing-parts f g es p.1).1

    cases : (b : Bool) → is_increasing (e ∷ es) ≡ true → is_increasing (f ∷ cut_off l es) ≡ true → is_increasing (e ∷ (if b then es else f ∷ cut_off l es)) ≡ true
    cases true h k = h
    cases false h k = and_from _ _ (increasing-parts e f es s).0 k

pub increasing-cut_off_all : (l : ℕ) (es : List (ℕ × ℕ)) → is_increasing es ≡ true → is_increasing (cut_off l es) ≡ true
increasing-cut_off_all l [] s = s
increasing-cut_off_all l (e ∷ es) s = cases (touches l e) (increasing-rest e es s) (increasing-cut_off l e es s)
  where
    cases : (b : Bool) → is_increasing es ≡ true → is_increasing (e ∷ cut_off l es) ≡ true → is_increasing (if b then es else e ∷ cut_off l es) ≡ true
    cases true h k = h
    cases false h k = k

-- the word of a tree that was taken apart fits, and stands for the tree
pub record Decodes (vs w : List ℕ) (es : List (ℕ × ℕ)) : Type 0 where
  pub fits : Fits vs w
  pub is : decoded_on vs w ≡ es

decodes_step : (vs w : List ℕ) (es rest : List (ℕ × ℕ)) (l x : ℕ) → AllDifferent vs → is_member l vs ≡ true → is_member x vs ≡ true → l ≢ x
    → first_end vs es ≡ l → insert_edge (edge_between l x) rest ≡ es → Decodes (without l vs) w rest → Decodes vs (x ∷ w) es
decodes_step vs w es rest l x d lv xv ne first whole h =
    let inner = h.fits in
    let shorter = length-without l vs lv in
    let gone = member-without_same l vs d in
    let fits : Fits vs (x ∷ w) = record {
      different = d;
      long = (let n = inner.long in omega arith);
      letters = λ y m. letter y x (is_member y w) m xv (λ k. member_of_without l y vs (inner.letters y k));
    } in
    let no_letter : count_in l w ≡ 0 = absent_count (is_member l w) refl in
    let degrees : (v : ℕ) → is_member v vs ≡ true → degree_of v es ≡ suc (count_in v (x ∷ w)) = λ v m.
    ap (degree_of v) (sym whole) ∙ degree-insert v (edge_between l x) rest
    ∙ each v l x vs (without l vs) w (degree_of v rest) m gone ne (touches-between v l x ne)
    (ap (degree_of v) (sym h.is) ∙ degree-decoded w (without l vs) v inner) (λ k. member-without_other l v vs k) no_letter in
    let leaf : first_leaf vs (x ∷ w) ≡ l = sym (first_end-decoded vs vs (x ∷ w) es degrees) ∙ first in
    record {
      fits = fits;
      is = ap (λ z. insert_edge (edge_between z x) (decoded_on (without z vs) w)) leaf ∙ ap (insert_edge (edge_between l x)) h.is ∙ whole;
    }
  where
    letter : (y x : ℕ) (m : Bool) → ((x == y) || m) ≡ true → is_member x vs ≡ true → (m ≡ true → is_member y vs ≡ true) → is_member y vs ≡ true
    letter y x m h k e = grind arith

    absent_count : (b : Bool) → is_member l w ≡ b → count_in l w ≡ 0
    absent_count false e = count_absent l w e
    absent_count true e = absurd (let k = h.fits.letters l e in let g = member-without_same l vs d in let f : true ≡ false = sym k ∙ g in cc)

    each : (v l x : ℕ) (vs rest w : List ℕ) (k : ℕ) → is_member v vs ≡ true → is_member l rest ≡ false → l ≢ x
        → (if touches v (edge_between l x) then 1 else 0) ≡ (if l == v then 1 else 0) + (if x == v then 1 else 0)
        → k ≡ (if is_member v rest then suc (count_in v w) else 0) → (l ≢ v → is_member v rest ≡ is_member v vs) → count_in l w ≡ 0
        → (if touches v (edge_between l x) then 1 else 0) + k ≡ suc ((if x == v then 1 else 0) + count_in v w)
    each v l x vs rest w k m gone ne t e other none = grind arith

pub decoded_on-encoded_on : (k : ℕ) (vs : List ℕ) (es : List (ℕ × ℕ)) → AllDifferent vs → is_increasing es ≡ true → AllUpward es → IsPruned k vs es
    → Decodes vs (encoded_on k vs es) es
decoded_on-encoded_on zero vs es d s up p = record {
  fits = record { different = d; long = p.0; letters = λ x m. cc };
  is = sym p.1;
}
decoded_on-encoded_on (suc k) vs es d s up p =
    let l = first_end vs es in
    decodes_step vs (encoded_on k (without l vs) (cut_off l es)) es (cut_off l es) l (neighbour_of l es) d p.0 p.2 p.3 refl
    (insert-cut_off l es s up p.1)
    (decoded_on-encoded_on k (without l vs) (cut_off l es) (different-without l vs d) (increasing-cut_off_all l es s) (upward-cut_off l es up) p.4)
