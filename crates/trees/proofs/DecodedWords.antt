-- The word of the tree of a word is that word.
use Rattle.std.proofs.Common.{◌≡◌, ◌≢◌, ℕ, suc, ◌+◌, ◌<◌, ◌⊎◌, Bool, true, false, ◌||◌, ◌==◌, if◌then◌else◌, List, [], ◌∷◌, length, refl, sym, ap, ◌∙◌, inl, inr, ⊎_elim, arith, lt-ltb}
use Rattle.trees.specs.Edges.{comes_before}
use Rattle.lists.specs.Ranges.{below}
use Rattle.lists.specs.Members.{is_member, count_in, without, AllDifferent}
use Rattle.trees.specs.Words.{edge_between, insert_edge, first_leaf, last_edge, decoded_on, decoded, touches, degree_of, other_end, neighbour_of, cut_off, first_end, encoded_on, encoded, Fits}
use Rattle.lists.proofs.Different.{count_absent, count_present, different-below, different-without, length-below, length-without, member-below, member-without_other, member-without_same, member_apart, member_head, member_tail, subset_length}

worked : decoded 6 (3 ∷ 3 ∷ 3 ∷ 4 ∷ []) ≡ (0, 3) ∷ (1, 3) ∷ (2, 3) ∷ (3, 4) ∷ (4, 5) ∷ []
unfolding decoded
worked = refl

worked_back : encoded 6 ((0, 3) ∷ (1, 3) ∷ (2, 3) ∷ (3, 4) ∷ (4, 5) ∷ []) ≡ 3 ∷ 3 ∷ 3 ∷ 4 ∷ []
unfolding encoded
worked_back = refl

pub degree-insert : (v : ℕ) (e : ℕ × ℕ) (es : List (ℕ × ℕ)) → degree_of v (insert_edge e es) ≡ (if touches v e then 1 else 0) + degree_of v es
degree-insert v e [] = refl
degree-insert v e (f ∷ fs) = step v e f fs (insert_edge e fs) (degree-insert v e fs)
  where
    step : (v : ℕ) (e f : ℕ × ℕ) (fs rest : List (ℕ × ℕ)) → degree_of v rest ≡ (if touches v e then 1 else 0) + degree_of v fs
        → degree_of v (if comes_before e f then e ∷ f ∷ fs else f ∷ rest) ≡ (if touches v e then 1 else 0) + ((if touches v f then 1 else 0) + degree_of v fs)
    step v e f fs rest h = grind arith

pub touches-between : (v a b : ℕ) → a ≢ b → (if touches v (edge_between a b) then 1 else 0) ≡ (if a == v then 1 else 0) + (if b == v then 1 else 0)
touches-between v a b ne = grind arith

-- the first leaf is a vertex and no letter, or each vertex is a letter
first_leaf_is : (vs ws : List ℕ)
    → ((is_member (first_leaf vs ws) vs ≡ true) × (is_member (first_leaf vs ws) ws ≡ false)) ⊎ ((v : ℕ) → is_member v vs ≡ true → is_member v ws ≡ true)
first_leaf_is [] ws = inr (λ v m. cc)
first_leaf_is (v ∷ vs) ws = step (is_member v ws) refl (first_leaf_is vs ws)
  where
    member_or : (u v : ℕ) (vs ws : List ℕ) → is_member v ws ≡ true → (is_member u vs ≡ true → is_member u ws ≡ true) → is_member u (v ∷ vs) ≡ true → is_member u ws ≡ true
    member_or u v vs ws e h m = grind arith

    step : (b : Bool) → is_member v ws ≡ b
        → ((is_member (first_leaf vs ws) vs ≡ true) × (is_member (first_leaf vs ws) ws ≡ false)) ⊎ ((u : ℕ) → is_member u vs ≡ true → is_member u ws ≡ true)
        → ((is_member (if b then first_leaf vs ws else v) (v ∷ vs) ≡ true) × (is_member (if b then first_leaf vs ws else v) ws ≡ false)) ⊎ ((u : ℕ) → is_member u (v ∷ vs) ≡ true → is_member u ws ≡ true)
    step true e (inl f) = inl (member_tail (first_leaf vs ws) v vs f.0, f.1)
    step true e (inr h) = inr (λ u. member_or u v vs ws e (h u))
    step false e h = inl (member_head v vs, e)

pub first_leaf_found : (vs ws : List ℕ) → AllDifferent vs → length ws < length vs → (is_member (first_leaf vs ws) vs ≡ true) × (is_member (first_leaf vs ws) ws ≡ false)
first_leaf_found vs ws d h =
    ⊎_elim (λ f. f) (λ all. absurd (let l = subset_length vs ws d all in omega arith)) (first_leaf_is vs ws)

-- ---- degrees in the tree of a word
pub fits_found : (vs : List ℕ) (x : ℕ) (w : List ℕ) → Fits vs (x ∷ w) → (is_member (first_leaf vs (x ∷ w)) vs ≡ true) × (is_member (first_leaf vs (x ∷ w)) (x ∷ w) ≡ false)
fits_found vs x w f = let l = f.long in first_leaf_found vs (x ∷ w) f.different (omega arith)

pub fits_step : (vs : List ℕ) (x : ℕ) (w : List ℕ) → Fits vs (x ∷ w) → Fits (without (first_leaf vs (x ∷ w)) vs) w
fits_step vs x w f =
    let l = first_leaf vs (x ∷ w) in
    let found = fits_found vs x w f in
    record {
      different = different-without l vs f.different;
      long = (let k = length-without l vs found.0 in let n = f.long in omega arith);
      letters = λ y m. member-without_other l y vs (λ e. member_apart y l (x ∷ w) (member_tail y x w m) found.1 (sym e)) ∙ f.letters y (member_tail y x w m);
    }

degree-last : (vs : List ℕ) (v : ℕ) → AllDifferent vs → length vs ≡ 2 → degree_of v (last_edge vs) ≡ (if is_member v vs then 1 else 0)
degree-last [] v d e = absurd (omega arith)
degree-last (a ∷ []) v d e = absurd (omega arith)
degree-last (a ∷ b ∷ c ∷ vs) v d e = absurd (omega arith)
degree-last (a ∷ b ∷ []) v d e = step a b v d.0
  where
    step : (a b v : ℕ) → ((b == a) || false) ≡ false → (if touches v (edge_between a b) then 1 else 0) + 0 ≡ (if (a == v) || ((b == v) || false) then 1 else 0)
    step a b v h = grind arith

pub degree-decoded : (w vs : List ℕ) (v : ℕ) → Fits vs w → degree_of v (decoded_on vs w) ≡ (if is_member v vs then suc (count_in v w) else 0)
degree-decoded [] vs v f = degree-last vs v f.different f.long
degree-decoded (x ∷ w) vs v f =
    let l = first_leaf vs (x ∷ w) in
    let found = fits_found vs x w f in
    let letter = f.letters x (member_head x w) in
    let apart : x ≢ l = member_apart x l (x ∷ w) (member_head x w) found.1 in
    degree-insert v (edge_between l x) (decoded_on (without l vs) w)
    ∙ step v l x vs (without l vs) w (degree_of v (decoded_on (without l vs) w)) found.0 found.1 letter apart
    (touches-between v l x (λ e. apart (sym e))) (degree-decoded w (without l vs) v (fits_step vs x w f))
    (member-without_same l vs f.different) (λ ne. member-without_other l v vs ne) (count_absent l (x ∷ w) found.1)
  where
    step : (v l x : ℕ) (vs rest w : List ℕ) (d : ℕ) → is_member l vs ≡ true → is_member l (x ∷ w) ≡ false → is_member x vs ≡ true → x ≢ l
        → (if touches v (edge_between l x) then 1 else 0) ≡ (if l == v then 1 else 0) + (if x == v then 1 else 0)
        → d ≡ (if is_member v rest then suc (count_in v w) else 0)
        → is_member l rest ≡ false → (l ≢ v → is_member v rest ≡ is_member v vs) → (if x == l then 1 else 0) + count_in l w ≡ 0
        → (if touches v (edge_between l x) then 1 else 0) + d ≡ (if is_member v vs then suc ((if x == v then 1 else 0) + count_in v w) else 0)
    step v l x vs rest w d lv lw xv ne t e same other none = grind arith

-- ---- the word of the tree of a word
-- in the tree of a word the vertices with one edge are those that are no letters
pub first_end-decoded : (us vs ws : List ℕ) (es : List (ℕ × ℕ))
    → ((v : ℕ) → is_member v us ≡ true → degree_of v es ≡ suc (count_in v ws)) → first_end us es ≡ first_leaf us ws
first_end-decoded [] vs ws es h = refl
first_end-decoded (u ∷ us) vs ws es h =
    step u (first_end us es) (first_leaf us ws) (degree_of u es) (count_in u ws) (is_member u ws) (h u (member_head u us))
    (count_absent u ws) (count_present u ws) (first_end-decoded us vs ws es (λ v m. h v (member_tail v u us m)))
  where
    step : (u a b d k : ℕ) (m : Bool) → d ≡ suc k → (m ≡ false → k ≡ 0) → (m ≡ true → 0 < k) → a ≡ b → (if d == 1 then u else a) ≡ (if m then b else u)
    step u a b d k m e none some h = grind arith

-- an edge at a vertex that has no other
neighbour-insert : (l x : ℕ) (es : List (ℕ × ℕ)) → l ≢ x → degree_of l es ≡ 0 → neighbour_of l (insert_edge (edge_between l x) es) ≡ x
neighbour-insert l x [] ne h = step l x ne
  where
    step : (l x : ℕ) → l ≢ x → (if touches l (edge_between l x) then other_end l (edge_between l x) else 0) ≡ x
    step l x ne = grind arith
neighbour-insert l x (f ∷ fs) ne h = step l x f fs (insert_edge (edge_between l x) fs) (degree_of l fs) (neighbour_of l fs) ne h (neighbour-insert l x fs ne)
  where
    step : (l x : ℕ) (f : ℕ × ℕ) (fs rest : List (ℕ × ℕ)) (d n : ℕ) → l ≢ x → (if touches l f then 1 else 0) + d ≡ 0 → (d ≡ 0 → neighbour_of l rest ≡ x)
        → neighbour_of l (if comes_before (edge_between l x) f then edge_between l x ∷ f ∷ fs else f ∷ rest) ≡ x
    step l x f fs rest d n ne h e = grind arith

cut_off-insert : (l x : ℕ) (es : List (ℕ × ℕ)) → l ≢ x → degree_of l es ≡ 0 → cut_off l (insert_edge (edge_between l x) es) ≡ es
cut_off-insert l x [] ne h = step l x ne
  where
    step : (l x : ℕ) → l ≢ x → (if touches l (edge_between l x) then [] else edge_between l x ∷ []) ≡ []
    step l x ne = grind arith
cut_off-insert l x (f ∷ fs) ne h = step l x f fs (insert_edge (edge_between l x) fs) (degree_of l fs) ne h (cut_off-insert l x fs ne)
  where
    step : (l x : ℕ) (f : ℕ × ℕ) (fs rest : List (ℕ × ℕ)) (d : ℕ) → l ≢ x → (if touches l f then 1 else 0) + d ≡ 0 → (d ≡ 0 → cut_off l rest ≡ fs)
        → cut_off l (if comes_before (edge_between l x) f then edge_between l x ∷ f ∷ fs else f ∷ rest) ≡ f ∷ fs
    step l x f fs rest d ne h e = grind arith

pub encoded_on-decoded_on : (w vs : List ℕ) → Fits vs w → encoded_on (length w) vs (decoded_on vs w) ≡ w
encoded_on-decoded_on [] vs f = refl
encoded_on-decoded_on (x ∷ w) vs f =
    let l = first_leaf vs (x ∷ w) in
    let es = decoded_on (without l vs) w in
    let found = fits_found vs x w f in
    let apart : l ≢ x = λ e. member_apart x l (x ∷ w) (member_head x w) found.1 (sym e) in
    let rest = fits_step vs x w f in
    let leaf : first_end vs (insert_edge (edge_between l x) es) ≡ l =
    first_end-decoded vs vs (x ∷ w) (decoded_on vs (x ∷ w)) (λ v m. degree-decoded (x ∷ w) vs v f ∙ present (is_member v vs) (count_in v (x ∷ w)) m) in
    let none : degree_of l es ≡ 0 =
    degree-decoded w (without l vs) l rest ∙ absent (is_member l (without l vs)) (count_in l w) (member-without_same l vs f.different) in
    let tail = encoded_on-decoded_on w (without l vs) rest in
    ap (λ z. neighbour_of z (insert_edge (edge_between l x) es) ∷ encoded_on (length w) (without z vs) (cut_off z (insert_edge (edge_between l x) es))) leaf
    ∙ ap (λ z. z ∷ encoded_on (length w) (without l vs) (cut_off l (insert_edge (edge_between l x) es))) (neighbour-insert l x es apart none)
    ∙ ap (λ z. x ∷ encoded_on (length w) (without l vs) z) (cut_off-insert l x es apart none)
    ∙ ap (λ z. x ∷ z) tail
  where
    present : (m : Bool) (k : ℕ) → m ≡ true → (if m then suc k else 0) ≡ suc k
    present m k h = grind arith

    absent : (m : Bool) (k : ℕ) → m ≡ false → (if m then suc k else 0) ≡ 0
    absent m k h = grind arith

pub length-insert_edge : (e : ℕ × ℕ) (es : List (ℕ × ℕ)) → length (insert_edge e es) ≡ suc (length es)
length-insert_edge e [] = refl
length-insert_edge e (f ∷ es) = step (comes_before e f) (length-insert_edge e es)
  where
    step : (b : Bool) → length (insert_edge e es) ≡ suc (length es) → length (if b then e ∷ f ∷ es else f ∷ insert_edge e es) ≡ suc (suc (length es))
    step true h = refl
    step false h = ap suc h

-- a tree has one edge more than its word has letters
pub length-decoded_on : (vs w : List ℕ) → Fits vs w → length (decoded_on vs w) ≡ length w + 1
length-decoded_on [] [] f = absurd (let l = f.long in omega arith)
length-decoded_on (u ∷ []) [] f = absurd (let l = f.long in omega arith)
length-decoded_on (u ∷ v ∷ vs) [] f = refl
length-decoded_on vs (x ∷ w) f =
    let h = length-decoded_on (without (first_leaf vs (x ∷ w)) vs) w (fits_step vs x w f) in
    length-insert_edge (edge_between (first_leaf vs (x ∷ w)) x) (decoded_on (without (first_leaf vs (x ∷ w)) vs) w) ∙ (omega arith)

-- a word of letters below n, of which there are two fewer than n
pub fits-below : (n : ℕ) (w : List ℕ) → length w + 2 ≡ n → ((x : ℕ) → is_member x w ≡ true → x < n) → Fits (below n) w
fits-below n w e f = record {
  different = different-below n;
  long = length-below n ∙ sym e;
  letters = λ x m. member-below x n ∙ lt-ltb x n (f x m);
}
