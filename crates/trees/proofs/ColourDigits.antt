-- On a tree the colours that differ along each edge and the digits of colours correspond.
use Rattle.std.proofs.Common.{◌≡◌, ◌≢◌, ℕ, ◌<◌, ◌≤◌, Bool, true, false, ◌||◌, ◌==◌, nat_lt, if◌then◌else◌, List, [], ◌∷◌, length, get_or, set, map, refl, sym, ap, ◌∙◌, subst, ⊎_elim, arith, length-set}
use Rattle.std.proofs.lemmas.List.{ext_get_or}
use Rattle.std.proofs.lemmas.Bool.{cases_eq}
use Rattle.std.proofs.lemmas.Bool.Decides.{nat_tests}
use Rattle.lists.specs.Members.{is_member, IsIn}
use Rattle.trees.specs.Walks.{lifted, place_of, IsWalk, coloured, Follows, digits_of}
use Rattle.lists.proofs.Members.{nothing_in, in_cons}
use Rattle.trees.proofs.FirstOrLater.{at_first, later, past_first}
use Rattle.trees.proofs.WalkLaws.{place-lifted, lifted_apart, place_below, lifted_below, Within, is_walked, Differs, coloured_keeps, coloured_follows, follows_once, digits_keep, digits_follow}
use Rattle.trees.proofs.WalkedEdges.{IsTreeWalk, AlongEdges, step_edge}

-- the first digit is a colour, and the others are places among the other colours
pub record AreColourDigits (n r : ℕ) (ds : List ℕ) : Type 0 where
  pub long : length ds ≡ n
  pub first : get_or ds 0 0 ≤ r
  pub places : (v : ℕ) → v < n → 0 ≢ v → get_or ds v 0 < r

-- the ends of an edge have different colours
abbrev pub EndsApart : List ℕ → ℕ × ℕ → Type 0
EndsApart cs e = get_or cs e.0 0 ≢ get_or cs e.1 0

-- a colour for each vertex, and each edge joins two colours
pub record AreColours (n r : ℕ) (es : List (ℕ × ℕ)) (cs : List ℕ) : Type 0 where
  pub long : length cs ≡ n
  pub within : (v : ℕ) → v < n → get_or cs v 0 ≤ r
  pub differ : (e : ℕ × ℕ) → IsIn e es → EndsApart cs e

pub length-coloured : (walk : List (ℕ × ℕ)) (ds cs : List ℕ) → length (coloured walk ds cs) ≡ length cs
length-coloured [] ds cs = refl
length-coloured (s ∷ walk) ds cs =
    let c = lifted (get_or ds s.0 0) (get_or cs s.1 0) in
    length-coloured walk ds (set cs s.0 c) ∙ length-set cs s.0 c

pub length-digits_of : (walk : List (ℕ × ℕ)) (cs ds : List ℕ) → length (digits_of walk cs ds) ≡ length ds
length-digits_of [] cs ds = refl
length-digits_of (s ∷ walk) cs ds =
    let x = place_of (get_or cs s.0 0) (get_or cs s.1 0) in
    length-digits_of walk cs (set ds s.0 x) ∙ length-set ds s.0 x

-- ---- along a walk
colours_within : (walk : List (ℕ × ℕ)) (before ds cs : List ℕ) (r : ℕ) → IsWalk walk before → Follows walk ds cs
    → ((v : ℕ) → is_member v before ≡ true → get_or cs v 0 ≤ r) → ((v : ℕ) → is_walked v walk ≡ true → get_or ds v 0 < r)
    → (v : ℕ) → is_walked v walk ≡ true → get_or cs v 0 ≤ r
colours_within [] before ds cs r w f old digit v m = cc
colours_within (s ∷ walk) before ds cs r w f old digit v m =
    let here : get_or cs s.0 0 ≤ r =
    subst (λ z. z ≤ r) (sym f.0) (lifted_below (get_or ds s.0 0) (get_or cs s.1 0) r (digit s.0 (at_first s.0 (is_walked s.0 walk))) (old s.1 w.1)) in
    ⊎_elim (λ e. subst (λ z. get_or cs z 0 ≤ r) e here)
    (λ ne. colours_within walk (s.0 ∷ before) ds cs r w.2 f.1 (grown here) (λ u h. digit u (later s.0 u (is_walked u walk) h)) v (past_first s.0 v (is_walked v walk) m ne))
    (cases_eq s.0 v)
  where
    grown : get_or cs s.0 0 ≤ r → (u : ℕ) → is_member u (s.0 ∷ before) ≡ true → get_or cs u 0 ≤ r
    grown here u h = ⊎_elim (λ e. subst (λ z. get_or cs z 0 ≤ r) e here) (λ ne. old u (past_first s.0 u (is_member u before) h ne)) (cases_eq s.0 u)

-- colours are followed by one list of digits only
digits_once : (walk : List (ℕ × ℕ)) (xs ys cs : List ℕ) → Follows walk xs cs → Follows walk ys cs → (v : ℕ) → is_walked v walk ≡ true → get_or xs v 0 ≡ get_or ys v 0
digits_once [] xs ys cs f g v h = cc
digits_once (s ∷ walk) xs ys cs f g v h =
    let c = get_or cs s.1 0 in
    let here : get_or xs s.0 0 ≡ get_or ys s.0 0 =
    sym (place-lifted (get_or xs s.0 0) c) ∙ ap (λ z. place_of z c) (sym f.0 ∙ g.0) ∙ place-lifted (get_or ys s.0 0) c in
    ⊎_elim (λ e. subst (λ z. get_or xs z 0 ≡ get_or ys z 0) e here) (λ ne. digits_once walk xs ys cs f.1 g.1 v (past_first s.0 v (is_walked v walk) h ne)) (cases_eq s.0 v)

follows_differs : (walk : List (ℕ × ℕ)) (ds cs : List ℕ) → Follows walk ds cs → Differs walk cs
follows_differs [] ds cs f = tt
follows_differs (s ∷ walk) ds cs f = (λ e. lifted_apart (get_or ds s.0 0) (get_or cs s.1 0) (sym f.0 ∙ e), follows_differs walk ds cs f.1)

-- the digit of a step is the index of its colour
digits_below : (walk : List (ℕ × ℕ)) (before ds cs : List ℕ) (r : ℕ) → Follows walk ds cs → ((v : ℕ) → is_walked v walk ≡ true → get_or cs v 0 ≤ r)
    → IsWalk walk before → ((v : ℕ) → is_member v before ≡ true → get_or cs v 0 ≤ r) → (v : ℕ) → is_walked v walk ≡ true → get_or ds v 0 < r
digits_below [] before ds cs r f colour w old v m = cc
digits_below (s ∷ walk) before ds cs r f colour w old v m =
    let c = get_or cs s.1 0 in
    let x = get_or cs s.0 0 in
    let own : x ≤ r = colour s.0 (at_first s.0 (is_walked s.0 walk)) in
    let digit : get_or ds s.0 0 ≡ place_of x c = sym (place-lifted (get_or ds s.0 0) c) ∙ ap (λ z. place_of z c) (sym f.0) in
    let here : get_or ds s.0 0 < r =
    subst (λ z. z < r) (sym digit) (place_below x c r (λ e. lifted_apart (get_or ds s.0 0) c (sym f.0 ∙ e)) own (old s.1 w.1)) in
    ⊎_elim (λ e. subst (λ z. get_or ds z 0 < r) e here)
    (λ ne. digits_below walk (s.0 ∷ before) ds cs r f.1 (λ u h. colour u (later s.0 u (is_walked u walk) h)) w.2 (grown own) v (past_first s.0 v (is_walked v walk) m ne))
    (cases_eq s.0 v)
  where
    grown : get_or cs s.0 0 ≤ r → (u : ℕ) → is_member u (s.0 ∷ before) ≡ true → get_or cs u 0 ≤ r
    grown here u h = ⊎_elim (λ e. subst (λ z. get_or cs z 0 ≤ r) e here) (λ ne. old u (past_first s.0 u (is_member u before) h ne)) (cases_eq s.0 u)

-- ---- along edges
edge_differs : (walk : List (ℕ × ℕ)) (cs : List ℕ) (e : ℕ × ℕ) → Differs walk cs → IsIn e (map step_edge walk) → EndsApart cs e
edge_differs [] cs e d i = absurd (nothing_in i)
edge_differs (s ∷ walk) cs e d i =
    ⊎_elim (λ same. subst (EndsApart cs) (sym same) (turned (nat_lt s.0 s.1))) (λ j. edge_differs walk cs e d.1 j) (in_cons i)
  where
    turned : (b : Bool) → EndsApart cs (if b then (s.0, s.1) else (s.1, s.0))
    turned true = d.0
    turned false = λ k. d.0 (sym k)

walk_differs : (es walk : List (ℕ × ℕ)) (cs : List ℕ) → ((e : ℕ × ℕ) → IsIn e es → EndsApart cs e) → AlongEdges es walk → Differs walk cs
walk_differs es [] cs h a = tt
walk_differs es (s ∷ walk) cs h a = (turned (nat_lt s.0 s.1) (h (step_edge s) a.0), walk_differs es walk cs h a.1)
  where
    turned : (b : Bool) → EndsApart cs (if b then (s.0, s.1) else (s.1, s.0))
        → get_or cs s.0 0 ≢ get_or cs s.1 0
    turned true k = k
    turned false k = λ e. k (sym e)

-- ---- of a tree
pub only_zero : (v : ℕ) → ((0 == v) || false) ≡ true → 0 ≡ v
only_zero v h = grind (arith, nat_tests)

zero_there : (v : ℕ) → 0 ≡ v → ((0 == v) || false) ≡ true
zero_there v h = grind (arith, nat_tests)

walked_apart : (walk : List (ℕ × ℕ)) (before : List ℕ) (u v : ℕ) → IsWalk walk before → is_member u before ≡ true → is_walked v walk ≡ true → u ≢ v
walked_apart [] before u v w p m = cc
walked_apart (s ∷ walk) before u v w p m = λ e.
    ⊎_elim (λ same. absurd (let x : is_member u before ≡ is_member s.0 before = ap (λ z. is_member z before) (e ∙ sym same) in let y = w.0 in clash p x y))
    (λ ne. walked_apart walk (s.0 ∷ before) u v w.2 (later s.0 u (is_member u before) p) (past_first s.0 v (is_walked v walk) m ne) e)
    (cases_eq s.0 v)
  where
    clash : {a b : Bool} → a ≡ true → a ≡ b → b ≡ false → ⊥
    clash h k l = let x : true ≡ false = sym h ∙ k ∙ l in cc

walked_below : (n : ℕ) (walk : List (ℕ × ℕ)) (v : ℕ) → Within walk n → is_walked v walk ≡ true → v < n
walked_below n [] v w m = cc
walked_below n (s ∷ walk) v w m =
    ⊎_elim (λ e. subst (λ z. z < n) e w.0) (λ ne. walked_below n walk v w.1 (past_first s.0 v (is_walked v walk) m ne)) (cases_eq s.0 v)

module _ (n r : ℕ) (es walk : List (ℕ × ℕ)) (some : 0 < n) (t : IsTreeWalk n es walk) where
  at_zero : (P : ℕ → Type 0) → P 0 → (v : ℕ) → is_member v (0 ∷ []) ≡ true → P v
  at_zero P h v m = subst P (only_zero v m) h

  -- lists of n numbers that agree at 0 and along the walk
  agree : (xs ys : List ℕ) → length xs ≡ n → length ys ≡ n → get_or xs 0 0 ≡ get_or ys 0 0 → ((v : ℕ) → is_walked v walk ≡ true → get_or xs v 0 ≡ get_or ys v 0) → xs ≡ ys
  agree xs ys e f first h =
      ext_get_or 0 xs ys (e ∙ sym f) (λ i k. ⊎_elim (λ z. subst (λ j. get_or xs j 0 ≡ get_or ys j 0) z first) (λ ne. h i (t.reaches i (omega arith) ne)) (cases_eq 0 i))

  -- what holds at 0 and along the walk holds at each vertex
  everywhere : (P : ℕ → Type 0) → P 0 → ((v : ℕ) → is_walked v walk ≡ true → P v) → (v : ℕ) → v < n → P v
  everywhere P first h v k = ⊎_elim (λ z. subst P z first) (λ ne. h v (t.reaches v k ne)) (cases_eq 0 v)

  module _ (ds : List ℕ) (d : AreColourDigits n r ds) where
    colours_follow : Follows walk ds (coloured walk ds ds)
    colours_follow = coloured_follows walk (0 ∷ []) ds ds t.walks (subst (λ m. Within walk m) (sym d.long) t.within)

    first_colour : get_or (coloured walk ds ds) 0 0 ≡ get_or ds 0 0
    first_colour = coloured_keeps walk (0 ∷ []) ds ds 0 t.walks (zero_there 0 refl)

    pub colours_from : AreColours n r es (coloured walk ds ds)
    colours_from =
        let cs = coloured walk ds ds in
        let first : get_or cs 0 0 ≤ r = (let e = first_colour in let f = d.first in omega arith) in
        record {
          long = length-coloured walk ds ds ∙ d.long;
          within = everywhere (λ v. get_or cs v 0 ≤ r) first
              (colours_within walk (0 ∷ []) ds cs r t.walks colours_follow (at_zero (λ v. get_or cs v 0 ≤ r) first)
              (λ v m. d.places v (walked_below n walk v t.within m) (walked_apart walk (0 ∷ []) 0 v t.walks (zero_there 0 refl) m)));
          differ = λ e i. edge_differs walk cs e (follows_differs walk ds cs colours_follow) (t.covers e i);
        }

    pub digits_back : digits_of walk (coloured walk ds ds) (coloured walk ds ds) ≡ ds
    digits_back =
        let cs = coloured walk ds ds in
        let long : length cs ≡ n = length-coloured walk ds ds ∙ d.long in
        agree (digits_of walk cs cs) ds (length-digits_of walk cs cs ∙ long) d.long
        (digits_keep walk (0 ∷ []) cs cs 0 t.walks (zero_there 0 refl) ∙ first_colour)
        (digits_once walk (digits_of walk cs cs) ds cs
        (digits_follow walk (0 ∷ []) cs cs t.walks (subst (λ m. Within walk m) (sym long) t.within) (follows_differs walk ds cs colours_follow)) colours_follow)

  module _ (cs : List ℕ) (c : AreColours n r es cs) where
    digits_of_follow : Follows walk (digits_of walk cs cs) cs
    digits_of_follow =
        digits_follow walk (0 ∷ []) cs cs t.walks (subst (λ m. Within walk m) (sym c.long) t.within) (walk_differs es walk cs c.differ t.along)

    first_digit : get_or (digits_of walk cs cs) 0 0 ≡ get_or cs 0 0
    first_digit = digits_keep walk (0 ∷ []) cs cs 0 t.walks (zero_there 0 refl)

    pub digits_from : AreColourDigits n r (digits_of walk cs cs)
    digits_from =
        let first = c.within 0 some in
        record {
          long = length-digits_of walk cs cs ∙ c.long;
          first = (let e = first_digit in omega arith);
          places = λ v k ne. digits_below walk (0 ∷ []) (digits_of walk cs cs) cs r digits_of_follow
              (λ u m. c.within u (walked_below n walk u t.within m)) t.walks (at_zero (λ u. get_or cs u 0 ≤ r) first) v (t.reaches v k ne);
        }

    pub colours_back : coloured walk (digits_of walk cs cs) (digits_of walk cs cs) ≡ cs
    colours_back =
        let ds = digits_of walk cs cs in
        let long : length ds ≡ n = length-digits_of walk cs cs ∙ c.long in
        let first : get_or (coloured walk ds ds) 0 0 ≡ get_or cs 0 0 = coloured_keeps walk (0 ∷ []) ds ds 0 t.walks (zero_there 0 refl) ∙ first_digit in
        agree (coloured walk ds ds) cs (length-coloured walk ds ds ∙ long) c.long first
        (follows_once walk (0 ∷ []) ds (coloured walk ds ds) cs t.walks (at_zero (λ v. get_or (coloured walk ds ds) v 0 ≡ get_or cs v 0) first)
        (coloured_follows walk (0 ∷ []) ds ds t.walks (subst (λ m. Within walk m) (sym long) t.within)) digits_of_follow)
