-- Colours and digits along a walk correspond.
use Rattle.std.proofs.Common.{◌≡◌, ◌≢◌, ℕ, ◌<◌, ◌≤◌, Bool, true, false, ◌==◌, ◌||◌, List, [], ◌∷◌, length, get_or, set, refl, sym, ap, ◌∙◌, subst, ⊎_elim, arith, get_or-set_other, get_or-set_same, length-set}
use Rattle.std.proofs.lemmas.Bool.{cases_eq}
use Rattle.std.proofs.lemmas.Bool.Decides.{nat_tests}
use Rattle.trees.specs.Walks.{lifted, place_of, IsWalk, coloured, Follows, digits_of}
use Rattle.lists.specs.Members.{is_member}
use Rattle.trees.proofs.FirstOrLater.{past_first}

pub place-lifted : (x c : ℕ) → place_of (lifted x c) c ≡ x
place-lifted x c = grind (arith, nat_tests)

pub lifted_apart : (x c : ℕ) → lifted x c ≢ c
lifted_apart x c = grind (arith, nat_tests)

pub lifted-place : (x c : ℕ) → x ≢ c → lifted (place_of x c) c ≡ x
lifted-place x c ne = grind (arith, nat_tests)

pub place_below : (x c r : ℕ) → x ≢ c → x ≤ r → c ≤ r → place_of x c < r
place_below x c r ne h k = grind (arith, nat_tests)

pub lifted_below : (x c r : ℕ) → x < r → c ≤ r → lifted x c ≤ r
lifted_below x c r h k = grind (arith, nat_tests)

pub apart : (x y : ℕ) (xs : List ℕ) → is_member x xs ≡ true → is_member y xs ≡ false → x ≢ y
apart x y xs h k e = let a : is_member x xs ≡ is_member y xs = ap (λ z. is_member z xs) e in cc

pub still_there : (x y : ℕ) (xs : List ℕ) → is_member x xs ≡ true → is_member x (y ∷ xs) ≡ true
still_there x y xs h = grind arith

pub now_there : (x : ℕ) (xs : List ℕ) → is_member x (x ∷ xs) ≡ true
now_there x xs = grind arith

-- what was there before keeps its colour
pub coloured_keeps : (walk : List (ℕ × ℕ)) (before digits colours : List ℕ) (v : ℕ) → IsWalk walk before → is_member v before ≡ true
    → get_or (coloured walk digits colours) v 0 ≡ get_or colours v 0
coloured_keeps [] before digits colours v w h = refl
coloured_keeps (s ∷ walk) before digits colours v w h =
    let ne : v ≢ s.0 = apart v s.0 before h w.0 in
    coloured_keeps walk (s.0 ∷ before) digits (set colours s.0 (lifted (get_or digits s.0 0) (get_or colours s.1 0))) v w.2 (still_there v s.0 before h)
    ∙ get_or-set_other colours s.0 v (lifted (get_or digits s.0 0) (get_or colours s.1 0)) 0 ne

-- all vertices of the walk have places in a list
abbrev pub Within : List (ℕ × ℕ) → ℕ → Type 0
Within [] n = Unit {0}
Within (s ∷ walk) n = (s.0 < n) × Within walk n

pub coloured_follows : (walk : List (ℕ × ℕ)) (before digits colours : List ℕ) → IsWalk walk before → Within walk (length colours)
    → Follows walk digits (coloured walk digits colours)
coloured_follows [] before digits colours w h = tt
coloured_follows (s ∷ walk) before digits colours w h =
    let c = lifted (get_or digits s.0 0) (get_or colours s.1 0) in
    let next = set colours s.0 c in
    let ne : s.1 ≢ s.0 = apart s.1 s.0 before w.1 w.0 in
    let at_new : get_or (coloured walk digits next) s.0 0 ≡ c =
    coloured_keeps walk (s.0 ∷ before) digits next s.0 w.2 (now_there s.0 before) ∙ get_or-set_same colours s.0 c 0 h.0 in
    let at_old : get_or (coloured walk digits next) s.1 0 ≡ get_or colours s.1 0 =
    coloured_keeps walk (s.0 ∷ before) digits next s.1 w.2 (still_there s.1 s.0 before w.1) ∙ get_or-set_other colours s.0 s.1 c 0 ne in (
      at_new ∙ ap (λ z. lifted (get_or digits s.0 0) z) (sym at_old),
      coloured_follows walk (s.0 ∷ before) digits next w.2 (subst (λ n. Within walk n) (sym (length-set colours s.0 c)) h.1),
    )

-- a vertex of the walk
abbrev pub is_walked : ℕ → List (ℕ × ℕ) → Bool
is_walked v [] = false
is_walked v (s ∷ walk) = (s.0 == v) || is_walked v walk

-- two colourings that follow the digits and agree on what was there agree along the walk
pub follows_once : (walk : List (ℕ × ℕ)) (before digits xs ys : List ℕ) → IsWalk walk before → ((v : ℕ) → is_member v before ≡ true → get_or xs v 0 ≡ get_or ys v 0)
    → Follows walk digits xs → Follows walk digits ys → (v : ℕ) → is_walked v walk ≡ true → get_or xs v 0 ≡ get_or ys v 0
follows_once [] before digits xs ys w a f g v h = cc
follows_once (s ∷ walk) before digits xs ys w a f g v h =
    let here : get_or xs s.0 0 ≡ get_or ys s.0 0 = f.0 ∙ ap (λ z. lifted (get_or digits s.0 0) z) (a s.1 w.1) ∙ sym g.0 in
    ⊎_elim (λ e. subst (λ z. get_or xs z 0 ≡ get_or ys z 0) e here)
    (λ ne. follows_once walk (s.0 ∷ before) digits xs ys w.2 (λ u m. grown u here m) f.1 g.1 v (past_first s.0 v (is_walked v walk) h ne))
    (cases_eq s.0 v)
  where
    grown : (u : ℕ) → get_or xs s.0 0 ≡ get_or ys s.0 0 → is_member u (s.0 ∷ before) ≡ true → get_or xs u 0 ≡ get_or ys u 0
    grown u here m =
        ⊎_elim (λ e. subst (λ z. get_or xs z 0 ≡ get_or ys z 0) e here) (λ ne. a u (past_first s.0 u (is_member u before) m ne)) (cases_eq s.0 u)

-- the digits of colours that differ along the walk are followed by these colours
abbrev pub Differs : List (ℕ × ℕ) → List ℕ → Type 0
Differs [] colours = Unit {0}
Differs (s ∷ walk) colours = (get_or colours s.0 0 ≢ get_or colours s.1 0) × Differs walk colours

pub digits_keep : (walk : List (ℕ × ℕ)) (before colours digits : List ℕ) (v : ℕ) → IsWalk walk before → is_member v before ≡ true
    → get_or (digits_of walk colours digits) v 0 ≡ get_or digits v 0
digits_keep [] before colours digits v w h = refl
digits_keep (s ∷ walk) before colours digits v w h =
    digits_keep walk (s.0 ∷ before) colours (set digits s.0 (place_of (get_or colours s.0 0) (get_or colours s.1 0))) v w.2 (still_there v s.0 before h)
    ∙ get_or-set_other digits s.0 v (place_of (get_or colours s.0 0) (get_or colours s.1 0)) 0 (apart v s.0 before h w.0)

pub digits_follow : (walk : List (ℕ × ℕ)) (before colours digits : List ℕ) → IsWalk walk before → Within walk (length digits) → Differs walk colours
    → Follows walk (digits_of walk colours digits) colours
digits_follow [] before colours digits w h d = tt
digits_follow (s ∷ walk) before colours digits w h d =
    let x = place_of (get_or colours s.0 0) (get_or colours s.1 0) in
    let next = set digits s.0 x in
    let digit : get_or (digits_of walk colours next) s.0 0 ≡ x =
    digits_keep walk (s.0 ∷ before) colours next s.0 w.2 (now_there s.0 before) ∙ get_or-set_same digits s.0 x 0 h.0 in (
      sym (ap (λ z. lifted z (get_or colours s.1 0)) digit ∙ lifted-place (get_or colours s.0 0) (get_or colours s.1 0) d.0),
      digits_follow walk (s.0 ∷ before) colours next w.2 (subst (λ n. Within walk n) (sym (length-set digits s.0 x)) h.1) d.1,
    )
