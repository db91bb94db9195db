-- The walk of a tree's leaves, in which each leaf is cut off and its neighbour is written.
use Rattle.std.proofs.Common.{◌≡◌, ◌≢◌, ℕ, zero, suc, ◌+◌, ◌-◌, ◌<◌, ◌≤◌, Bool, true, false, ◌||◌, ◌==◌, nat_lt, if◌then◌else◌, None, position, List, [], ◌∷◌, ◌++◌, length, set, get_or, refl, sym, ap, ◌∙◌, subst, arith, ltb-true, length-set, length-append, append_assoc, append-nil}
use Rattle.std.specs.List.{list_all}
use Rattle.std.proofs.lemmas.Bool.Decides.{nat_tests}
use Rattle.lists.specs.Ranges.{below}
use Rattle.lists.specs.Members.{is_member, without, AllDifferent}
use Rattle.trees.specs.Words.{edge_between, touches, degree_of, other_end, neighbour_of, cut_off, first_end, last_edge, encoded_on, encoded}
use Rattle.trees.proofs.PrunedTrees.{AllUpward, IsPruned, edge-other_end, upward-cut_off}
use Rattle.lists.proofs.Different.{member_of_without, member-below, length-without, different-without, different-below, length-below}
use Rattle.trees.proofs.DecodedWords.{touches-between}
use Rattle.trees.proofs.Connected.{EndsAmong, neighbour_member, length-cut_off, ends_without, ends_cut_off, degree-cut_off}
use Rattle.trees.proofs.TreeLaws.{upward_from, among_from}
use Rattle.prufer.proofs.Leaves.{IsAscending, ascending-without, ascending-below, first_end_at, IsFirstOne, no_one}
use Rattle.prufer.proofs.DegreeCounts.{get_or-set, get_or-taken_off}
use Rattle.prufer.proofs.Trees.{IsEdgeList, upward_and_below}

-- ---- degrees
degree_outside : (vs : List ℕ) (v : ℕ) (es : List (ℕ × ℕ)) → EndsAmong vs es → is_member v vs ≡ false → degree_of v es ≡ 0
degree_outside vs v [] among m = refl
degree_outside vs v (e ∷ es) among m =
    step (e.0 == v) (e.1 == v) (apart e.0 among.0) (apart e.1 among.1) (degree_outside vs v es among.2 m)
  where
    differ : (u : ℕ) → (u ≡ v → ⊥) → (u == v) ≡ false
    differ u ne = grind (arith, nat_tests)

    apart : (u : ℕ) → is_member u vs ≡ true → (u == v) ≡ false
    apart u i = differ u (λ e. absurd (let x : true ≡ false = sym i ∙ ap (λ z. is_member z vs) e ∙ m in cc))

    step : (a b : Bool) → a ≡ false → b ≡ false → degree_of v es ≡ 0 → (if a || b then 1 else 0) + degree_of v es ≡ 0
    step a b h k d = grind arith

-- cutting off the edge at l takes one from the degree of each of its ends
degree_of-cut_off : (l v : ℕ) (es : List (ℕ × ℕ)) → AllUpward es → 0 < degree_of l es
    → degree_of v es ≡ degree_of v (cut_off l es) + (if touches v (edge_between l (neighbour_of l es)) then 1 else 0)
degree_of-cut_off l v [] up h = absurd (omega arith)
degree_of-cut_off l v (e ∷ es) up h = cases (touches l e) refl (degree_of-cut_off l v es up.1)
  where
    rest : (b : Bool) → b ≡ false → 0 < (if b then 1 else 0) + degree_of l es → 0 < degree_of l es
    rest b e h = grind arith

    cases : (b : Bool) → touches l e ≡ b
        → (0 < degree_of l es → degree_of v es ≡ degree_of v (cut_off l es) + (if touches v (edge_between l (neighbour_of l es)) then 1 else 0))
        → degree_of v (e ∷ es) ≡ degree_of v (if b then es else e ∷ cut_off l es) + (if touches v (edge_between l (if b then other_end l e else neighbour_of l es)) then 1 else 0)
    cases true c f = ap (λ z. (if touches v z then 1 else 0) + degree_of v es) (sym (edge-other_end l e up.0 c)) ∙ (omega arith)
    cases false c f = let g = f (rest (touches l e) c h) in omega arith

-- ---- one leaf
pub record IsEncoding (n : ℕ) (es : List (ℕ × ℕ)) (k : ℕ) (word : List ℕ) (left : List (ℕ × ℕ)) (degrees : List ℕ) : Type 0 where
  pub vertices : List ℕ
  pub ascending : IsAscending vertices
  pub different : AllDifferent vertices
  pub inside : (v : ℕ) → is_member v vertices ≡ true → v < 11
  pub upward : AllUpward left
  pub among : EndsAmong vertices left
  pub long : length degrees ≡ 11
  pub are : (v : ℕ) → v < 11 → get_or degrees v 0 ≡ degree_of v left
  pub many : length vertices ≡ k + 2
  pub count : length left ≡ k + 1
  pub forth : IsPruned k vertices left → IsPruned (n - 2) (below n) es
  pub back : IsPruned (n - 2) (below n) es → IsPruned k vertices left
  pub words : word ++ encoded_on k vertices left ≡ encoded n es
  pub filled : length word + k + 2 ≡ n

pub encoding_start : (n : ℕ) (es : List (ℕ × ℕ)) (k : ℕ) (degrees : List ℕ) → n ≤ 11 → 2 ≤ n → k ≡ n - 2 → IsEdgeList es → length es + 1 ≡ n → list_all (λ e. nat_lt e.1 n) es ≡ true
    → length degrees ≡ 11 → ((v : ℕ) → v < 11 → get_or degrees v 0 ≡ degree_of v es) → IsEncoding n es k [] es degrees
unfolding encoded
encoding_start n es k degrees most least same l count ends long are = rw same (record {
  vertices = below n;
  ascending = ascending-below n;
  different = different-below n;
  inside = λ v m. (let less = ltb-true v n (sym (member-below v n) ∙ m) in omega arith);
  upward = upward_from n es (upward_and_below n es l.upward ends);
  among = among_from n es (upward_and_below n es l.upward ends);
  long = long;
  are = are;
  many = length-below n ∙ (let e : n ≡ n - 2 + 2 = omega arith in e);
  count = omega arith;
  forth = λ p. p;
  back = λ p. p;
  words = refl;
  filled = omega arith;
})

-- the first leaf and its neighbour
pub record IsCutOff (n : ℕ) (es : List (ℕ × ℕ)) (k : ℕ) (word : List ℕ) (left : List (ℕ × ℕ)) (degrees : List ℕ) (l : ℕ) : Type 0 where
  pub leaf_below : l < 11
  pub neighbour_below : neighbour_of l left < 11
  pub some : 1 ≤ get_or (set degrees l 0) (neighbour_of l left) 0
  pub room : length word < 9
  pub next : IsEncoding n es k (word ++ neighbour_of l left ∷ []) (cut_off l left) (set (set degrees l 0) (neighbour_of l left) (get_or (set degrees l 0) (neighbour_of l left) 0 - 1))

member_from : (vs : List ℕ) (v : ℕ) (es : List (ℕ × ℕ)) (m : Bool) → is_member v vs ≡ m → EndsAmong vs es → 0 < degree_of v es → m ≡ true
member_from vs v es true e among h = refl
member_from vs v es false e among h = absurd (let z = degree_outside vs v es among e in omega arith)

pub encoding_step : (n : ℕ) (es : List (ℕ × ℕ)) (j k : ℕ) (word : List ℕ) (left : List (ℕ × ℕ)) (degrees : List ℕ) (l : ℕ) → n ≤ 11 → j ≡ suc k
    → IsEncoding n es j word left degrees → IsFirstOne degrees l → IsCutOff n es k word left degrees l
encoding_step n es j k word left degrees l most same s f = go (subst (λ i. IsEncoding n es i word left degrees) same s)
  where
    go : IsEncoding n es (suc k) word left degrees → IsCutOff n es k word left degrees l
    go s =
        let x = neighbour_of l left in
        let vs = s.vertices in
        let less : l < 11 = (let b = f.below in let m = s.long in omega arith) in
        let one : degree_of l left ≡ 1 = sym (s.are l less) ∙ f.is in
        let some : 0 < degree_of l left = omega arith in
        let member = member_from vs l left (is_member l vs) refl s.among some in
        let first : first_end vs left ≡ l = first_end_at vs left l s.ascending member one (λ i h m e. f.before i h (s.are i (s.inside i m) ∙ e)) in
        let beside = neighbour_member vs l left s.among s.upward some in
        let near = s.inside x beside.0 in
        let among = ends_without l vs (cut_off l left) (ends_cut_off l vs left s.among) (degree-cut_off l left one) in
        let at_x : degree_of x left ≡ degree_of x (cut_off l left) + (if touches x (edge_between l x) then 1 else 0) = degree_of-cut_off l x left s.upward some in
        record {
          leaf_below = less;
          neighbour_below = near;
          some = rw (get_or-set degrees l x 0 f.below) (positive l x (get_or degrees x 0) (degree_of x (cut_off l left)) beside.1 (s.are x near ∙ at_x) (touches-between x l x beside.1));
          room = (let w = s.filled in omega arith);
          next = record {
            vertices = without l vs;
            ascending = ascending-without l vs s.ascending;
            different = different-without l vs s.different;
            inside = λ v m. s.inside v (member_of_without l v vs m);
            upward = upward-cut_off l left s.upward;
            among = among;
            long = length-set (set degrees l 0) x (get_or (set degrees l 0) x 0 - 1) ∙ length-set degrees l 0 ∙ s.long;
            are = λ v h. get_or-taken_off degrees l x v f.below (let m = s.long in omega arith) beside.1
                ∙ step l x v (get_or degrees v 0) (degree_of v left) (degree_of v (cut_off l left)) (s.are v h) beside.1 (degree_of-cut_off l v left s.upward some) (touches-between v l x beside.1)
                (λ e. subst (λ (u : ℕ). degree_of u (cut_off l left) ≡ 0) e (degree-cut_off l left one));
            many = (let m = length-without l vs member in let c = s.many in omega arith);
            count = (let c = s.count in let m = length-cut_off l left some in omega arith);
            forth = λ p. s.forth (pruned_again vs l first member one beside.0 beside.1 p);
            back = λ p. subst (λ i. IsPruned k (without i vs) (cut_off i left)) first (s.back p).4;
            words = append_assoc word (x ∷ []) (encoded_on k (without l vs) (cut_off l left))
                ∙ ap (λ i. word ++ neighbour_of i left ∷ encoded_on k (without i vs) (cut_off i left)) (sym first) ∙ s.words;
            filled = (let w = s.filled in let a = length-append word (x ∷ []) in omega arith);
          };
        }
      where
        positive : (l x g c : ℕ) {t : ℕ} → l ≢ x → g ≡ c + t → t ≡ (if l == x then 1 else 0) + (if x == x then 1 else 0) → 1 ≤ (if l == x then 0 else g)
        positive l x g c ne e t = grind (arith, nat_tests)

        step : (l x v g d c : ℕ) {t : ℕ} → g ≡ d → l ≢ x → d ≡ c + t → t ≡ (if l == v then 1 else 0) + (if x == v then 1 else 0) → (l ≡ v → c ≡ 0)
            → (if l == v then 0 else g - (if x == v then 1 else 0)) ≡ c
        step l x v g d c e ne f t z = grind (arith, nat_tests)

        pruned_again : (vs : List ℕ) (l : ℕ) → first_end vs left ≡ l → is_member l vs ≡ true → degree_of l left ≡ 1 → is_member (neighbour_of l left) vs ≡ true → l ≢ neighbour_of l left
            → IsPruned k (without l vs) (cut_off l left) → IsPruned (suc k) vs left
        pruned_again vs l e m one nm ne p = rw e (m, one, nm, ne, p)

-- ---- no leaf, and the end
pub encoding_stuck : (n : ℕ) (es : List (ℕ × ℕ)) (j k : ℕ) (word : List ℕ) (left : List (ℕ × ℕ)) (degrees : List ℕ) → j ≡ suc k
    → IsEncoding n es j word left degrees → None ≡ position (λ d. d == 1) degrees → IsPruned (n - 2) (below n) es → ⊥
encoding_stuck n es j k word left degrees same s none p = go (subst (λ i. IsEncoding n es i word left degrees) same s)
  where
    go : IsEncoding n es (suc k) word left degrees → ⊥
    go s =
        let q = s.back p in
        no_one degrees none (first_end s.vertices left) (s.are (first_end s.vertices left) (s.inside (first_end s.vertices left) q.0) ∙ q.1)

last_pair : (vs : List ℕ) (es : List (ℕ × ℕ)) → length vs ≡ 2 → length es ≡ 1 → AllUpward es → EndsAmong vs es → es ≡ last_edge vs
last_pair [] es h k up among = absurd (omega arith)
last_pair (a ∷ []) es h k up among = absurd (omega arith)
last_pair (a ∷ b ∷ c ∷ vs) es h k up among = absurd (omega arith)
last_pair (a ∷ b ∷ []) [] h k up among = absurd (omega arith)
last_pair (a ∷ b ∷ []) (e ∷ f ∷ es) h k up among = absurd (omega arith)
last_pair (a ∷ b ∷ []) (e ∷ []) h k up among = ap (λ g. g ∷ []) (ends a b e.0 e.1 among.0 among.1 up.0)
  where
    ends : (a b x y : ℕ) → ((a == x) || ((b == x) || false)) ≡ true → ((a == y) || ((b == y) || false)) ≡ true → nat_lt x y ≡ true → (x, y) ≡ edge_between a b
    ends a b x y p q h = grind (arith, nat_tests)

pub record IsEncoded (n : ℕ) (es : List (ℕ × ℕ)) (word : List ℕ) : Type 0 where
  pub pruned : IsPruned (n - 2) (below n) es
  pub word_is : word ≡ encoded n es

pub encoding_end : (n : ℕ) (es : List (ℕ × ℕ)) (j : ℕ) (word : List ℕ) (left : List (ℕ × ℕ)) (degrees : List ℕ) → j ≡ 0
    → IsEncoding n es j word left degrees → IsEncoded n es word
encoding_end n es j word left degrees same s = go (subst (λ i. IsEncoding n es i word left degrees) same s)
  where
    go : IsEncoding n es zero word left degrees → IsEncoded n es word
    go s = record {
      pruned = s.forth ((let m = s.many in omega arith), last_pair s.vertices left (let m = s.many in omega arith) (let c = s.count in omega arith) s.upward s.among);
      word_is = sym (append-nil word) ∙ s.words;
    }
