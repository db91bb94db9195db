-- The walk of a word's letters, in which each leaf is joined to its letter.
use Rattle.std.proofs.Common.{◌≡◌, ◌≢◌, ℕ, suc, ◌+◌, ◌-◌, ◌<◌, ◌≤◌, Bool, true, false, ◌||◌, ◌==◌, nat_lt, if◌then◌else◌, Option, Some, None, IsSome, position, List, [], ◌∷◌, length, set, get_or, refl, sym, ap, ◌∙◌, subst, arith, ltb-true, length-set}
use Rattle.std.proofs.lemmas.Bool.Decides.{nat_tests}
use Rattle.lists.specs.Ranges.{below}
use Rattle.lists.specs.Members.{is_member, count_in, without, AllDifferent}
use Rattle.trees.specs.Words.{edge_between, insert_edge, first_leaf, decoded_on, decoded, Fits}
use Rattle.lists.proofs.Different.{member_head, member_tail, member_of_without, member-without_other, member-without_same, member-below, member_apart, count_absent, count_present}
use Rattle.trees.proofs.DecodedWords.{first_leaf_found, fits_step, length-insert_edge}
use Rattle.prufer.proofs.Insertions.{insert_all, insert_all-first, insert_all-second}
use Rattle.prufer.proofs.Leaves.{IsAscending, ascending-without, ascending-below, first_leaf_at, IsFirstOne, no_one}
use Rattle.prufer.proofs.DegreeCounts.{get_or-set, get_or-taken_off}

-- a remaining vertex has one edge more than the remaining word has its letters
pub record AreDegrees (vertices rest degrees : List ℕ) : Type 0 where
  pub ascending : IsAscending vertices
  pub inside : (v : ℕ) → is_member v vertices ≡ true → v < 11
  pub long : length degrees ≡ 11
  pub are : (v : ℕ) → v < 11 → get_or degrees v 0 ≡ (if is_member v vertices then suc (count_in v rest) else 0)

-- ---- the first leaf
pub record IsLeaf (vertices rest : List ℕ) (k : ℕ) : Type 0 where
  pub member : is_member k vertices ≡ true
  pub absent : is_member k rest ≡ false
  pub first : first_leaf vertices rest ≡ k

pub leaf_from : (vs rest ds : List ℕ) (k : ℕ) → AreDegrees vs rest ds → IsFirstOne ds k → IsLeaf vs rest k
leaf_from vs rest ds k d f =
    let here = one (is_member k vs) (count_in k rest) (sym (d.are k (let l = d.long in let b = f.below in omega arith)) ∙ f.is) in
    let absent = no_letter k (is_member k rest) refl here.1 in
    record {
      member = here.0;
      absent = absent;
      first = first_leaf_at vs rest k d.ascending here.0 absent (λ j less m. letter j (is_member j rest) refl m (f.before j less));
    }
  where
    one : (m : Bool) (c : ℕ) → (if m then suc c else 0) ≡ 1 → (m ≡ true) × (c ≡ 0)
    one true c e = (refl, omega arith)
    one false c e = absurd (omega arith)

    no_letter : (v : ℕ) (m : Bool) → is_member v rest ≡ m → count_in v rest ≡ 0 → m ≡ false
    no_letter v true e z = absurd (let c = count_present v rest e in omega arith)
    no_letter v false e z = refl

    letter : (j : ℕ) (m : Bool) → is_member j rest ≡ m → is_member j vs ≡ true → get_or ds j 0 ≢ 1 → m ≡ true
    letter j true e m ne = refl
    letter j false e m ne = absurd (ne (d.are j (d.inside j m) ∙ ap (λ (b : Bool). if b then suc (count_in j rest) else 0) m ∙ ap suc (count_absent j rest e)))

-- a vertex that is no letter has one edge
leaf_degree : (vs rest ds : List ℕ) (v : ℕ) → AreDegrees vs rest ds → is_member v vs ≡ true → is_member v rest ≡ false → get_or ds v 0 ≡ 1
leaf_degree vs rest ds v d m n =
    d.are v (d.inside v m) ∙ ap (λ (b : Bool). if b then suc (count_in v rest) else 0) m ∙ ap suc (count_absent v rest n)

found : (ds : List ℕ) (o : Option ℕ) (v : ℕ) → o ≡ position (λ d. d == 1) ds → get_or ds v 0 ≡ 1 → IsSome o
found ds (Some k) v e h = refl
found ds None v e h = absurd (no_one ds e v h)

pub leaf_exists : (vs rest ds : List ℕ) (o : Option ℕ) → AreDegrees vs rest ds → Fits vs rest → o ≡ position (λ d. d == 1) ds → IsSome o
leaf_exists vs rest ds o d f e =
    let leaf = first_leaf_found vs rest f.different (let l = f.long in omega arith) in
    found ds o (first_leaf vs rest) e (leaf_degree vs rest ds (first_leaf vs rest) d leaf.0 leaf.1)

-- ---- one letter
pub record IsDecoding (n : ℕ) (word rest degrees : List ℕ) (made : List (ℕ × ℕ)) : Type 0 where
  pub vertices : List ℕ
  pub fits : Fits vertices rest
  pub counts : AreDegrees vertices rest degrees
  pub sorted : insert_all made [] ≡ made
  pub whole : insert_all made (decoded_on vertices rest) ≡ decoded n word
  pub count : length made + length rest ≡ length word

pub decoding_start : (n : ℕ) (word degrees : List ℕ) → n ≤ 11 → Fits (below n) word → length degrees ≡ 11
    → ((v : ℕ) → v < 11 → get_or degrees v 0 ≡ (if nat_lt v n then suc (count_in v word) else 0)) → IsDecoding n word word degrees []
unfolding decoded
decoding_start n word degrees most f long are = record {
  vertices = below n;
  fits = f;
  counts = record {
    ascending = ascending-below n;
    inside = λ v m. (let less = ltb-true v n (sym (member-below v n) ∙ m) in omega arith);
    long = long;
    are = λ v h. are v h ∙ ap (λ (b : Bool). if b then suc (count_in v word) else 0) (sym (member-below v n));
  };
  sorted = refl;
  whole = refl;
  count = omega arith;
}

-- the letter is another vertex than the leaf
pub record IsLetter (degrees : List ℕ) (k x : ℕ) : Type 0 where
  pub leaf_below : k < 11
  pub letter_below : x < 11
  pub apart : k ≢ x
  pub some : 1 ≤ get_or (set degrees k 0) x 0

pub letter_from : (n : ℕ) (word rest degrees : List ℕ) (made : List (ℕ × ℕ)) (k x : ℕ) → IsDecoding n word (x ∷ rest) degrees made → IsFirstOne degrees k → IsLetter degrees k x
letter_from n word rest degrees made k x s f =
    let d = s.counts in
    let leaf = leaf_from s.vertices (x ∷ rest) degrees k d f in
    let m = s.fits.letters x (member_head x rest) in
    let apart : k ≢ x = λ e. member_apart x k (x ∷ rest) (member_head x rest) leaf.absent (sym e) in
    let less = d.inside x m in
    record {
      leaf_below = d.inside k leaf.member;
      letter_below = less;
      apart = apart;
      some = rw (get_or-set degrees k x 0 f.below) (positive (get_or degrees x 0) (d.are x less ∙ ap (λ (b : Bool). if b then suc (count_in x (x ∷ rest)) else 0) m) apart);
    }
  where
    positive : (d : ℕ) {c : ℕ} → d ≡ suc c → k ≢ x → 1 ≤ (if k == x then 0 else d)
    positive d e ne = grind arith

degrees_step : (vs rest ds : List ℕ) (k x : ℕ) → AreDegrees vs (x ∷ rest) ds → AllDifferent vs → is_member k vs ≡ true → is_member x vs ≡ true → k ≢ x → k < 11 → x < 11
    → AreDegrees (without k vs) rest (set (set ds k 0) x (get_or (set ds k 0) x 0 - 1))
degrees_step vs rest ds k x d different m l ne kb xb = record {
  ascending = ascending-without k vs d.ascending;
  inside = λ v i. d.inside v (member_of_without k v vs i);
  long = length-set (set ds k 0) x (get_or (set ds k 0) x 0 - 1) ∙ length-set ds k 0 ∙ d.long;
  are = λ v h. get_or-taken_off ds k x v (let l = d.long in omega arith) (let l = d.long in omega arith) ne
      ∙ step v (is_member v vs) (is_member v (without k vs)) (get_or ds v 0) (count_in v rest) (d.are v h)
      (λ e. subst (λ (u : ℕ). is_member u (without k vs) ≡ false) e (member-without_same k vs different)) (λ e. member-without_other k v vs e);
}
  where
    step : (v : ℕ) (i j : Bool) (g c : ℕ) → g ≡ (if i then suc ((if x == v then 1 else 0) + c) else 0) → (k ≡ v → j ≡ false) → (k ≢ v → j ≡ i)
        → (if k == v then 0 else g - (if x == v then 1 else 0)) ≡ (if j then suc c else 0)
    step v i j g c e same other = grind (arith, nat_tests)

pub decoding_step : (n : ℕ) (word rest degrees : List ℕ) (made : List (ℕ × ℕ)) (k x : ℕ) → IsDecoding n word (x ∷ rest) degrees made → IsFirstOne degrees k
    → IsDecoding n word rest (set (set degrees k 0) x (get_or (set degrees k 0) x 0 - 1)) (insert_edge (edge_between k x) made)
decoding_step n word rest degrees made k x s f =
    let d = s.counts in
    let leaf = leaf_from s.vertices (x ∷ rest) degrees k d f in
    let letter = letter_from n word rest degrees made k x s f in
    let edge = edge_between k x in
    record {
      vertices = without k s.vertices;
      fits = subst (λ l. Fits (without l s.vertices) rest) leaf.first (fits_step s.vertices x rest s.fits);
      counts = degrees_step s.vertices rest degrees k x d s.fits.different leaf.member (s.fits.letters x (member_head x rest)) letter.apart letter.leaf_below letter.letter_below;
      sorted = insert_all-first edge made [] ∙ ap (insert_edge edge) s.sorted;
      whole = insert_all-first edge made (decoded_on (without k s.vertices) rest) ∙ sym (insert_all-second edge made (decoded_on (without k s.vertices) rest))
          ∙ ap (λ l. insert_all made (insert_edge (edge_between l x) (decoded_on (without l s.vertices) rest))) (sym leaf.first) ∙ s.whole;
      count = (let l = length-insert_edge edge made in let c = s.count in omega arith);
    }

-- ---- the last two vertices
-- the first of the two, and that the other one is the only vertex with one edge
pub record AreLastTwo (vertices degrees : List ℕ) (k : ℕ) : Type 0 where
  pub other : ℕ
  pub two : vertices ≡ k ∷ other ∷ []
  pub one : get_or (set degrees k 0) other 0 ≡ 1
  pub only : (v : ℕ) → v < 11 → get_or (set degrees k 0) v 0 ≡ 1 → v ≡ other

pub last_two : (vs ds : List ℕ) (k : ℕ) → AreDegrees vs [] ds → Fits vs [] → IsFirstOne ds k → AreLastTwo vs ds k
last_two [] ds k d t f = absurd (let l = t.long in omega arith)
last_two (a ∷ []) ds k d t f = absurd (let l = t.long in omega arith)
last_two (a ∷ b ∷ c ∷ vs) ds k d t f = absurd (let l = t.long in omega arith)
last_two (a ∷ b ∷ []) ds k d t f =
    let leaf = leaf_from (a ∷ b ∷ []) [] ds k d f in
    let same : a ≡ k = leaf.first in
    let less : a < b = d.ascending.0 b (member_head b []) in
    record {
      other = b;
      two = ap (λ u. u ∷ b ∷ []) same;
      one = get_or-set ds k b 0 f.below ∙ unequal (get_or ds b 0) (omega arith) ∙ leaf_degree (a ∷ b ∷ []) [] ds b d (member_tail b a (b ∷ []) (member_head b [])) refl;
      only = λ v h e. last v (get_or ds v 0) same (d.are v h) (sym (get_or-set ds k v 0 f.below) ∙ e);
    }
  where
    unequal : (g : ℕ) → k ≢ b → (if k == b then 0 else g) ≡ g
    unequal g ne = grind arith

    last : (v g : ℕ) → a ≡ k → g ≡ (if (a == v) || ((b == v) || false) then 1 else 0) → (if k == v then 0 else g) ≡ 1 → v ≡ b
    last v g same e one = grind (arith, nat_tests)

pub last_exists : (vs ds : List ℕ) (k : ℕ) (o : Option ℕ) → AreLastTwo vs ds k → o ≡ position (λ d. d == 1) (set ds k 0) → IsSome o
last_exists vs ds k o t e = found (set ds k 0) o t.other e t.one

pub decoding_end : (n : ℕ) (word degrees : List ℕ) (made : List (ℕ × ℕ)) (k j : ℕ) → IsDecoding n word [] degrees made → IsFirstOne degrees k → IsFirstOne (set degrees k 0) j
    → insert_edge (edge_between k j) made ≡ decoded n word
decoding_end n word degrees made k j s f g =
    let t = last_two s.vertices degrees k s.counts s.fits f in
    let last : j ≡ t.other = t.only j (let b = g.below in let l = length-set degrees k 0 in let m = s.counts.long in omega arith) g.is in
    ap (insert_edge (edge_between k j)) (sym s.sorted) ∙ sym (insert_all-second (edge_between k j) made [])
    ∙ ap (λ u. insert_all made (edge_between k u ∷ [])) last ∙ ap (λ vs. insert_all made (decoded_on vs [])) (sym t.two) ∙ s.whole
