-- On a tree the colour of vertex 0 is enough: the walk comes to all other vertices, whatever their entries were.
use Rattle.std.proofs.Common.{◌≡◌, ◌≢◌, ℕ, ◌+◌, ◌<◌, ◌≤◌, Bool, true, ◌||◌, ◌==◌, List, [], ◌∷◌, length, take, replicate, get_or, set, refl, sym, ap, ◌∙◌, subst, ⊎_elim, arith, eqb-true, length-set, get_or-set_same}
use Rattle.std.proofs.lemmas.Bool.{cases_eq, and_parts}
use Rattle.std.proofs.lemmas.Bool.Decides.{nat_tests}
use Rattle.std.proofs.lemmas.List.{ext_get_or, length-take-le}
use Rattle.trees.specs.Edges.{is_tree}
use Rattle.lists.specs.Members.{is_member}
use Rattle.trees.specs.Walks.{place_of, walk_in, IsWalk, coloured, digits_of}
use Rattle.trees.proofs.WalkLaws.{Within, is_walked, now_there, coloured_keeps, coloured_follows, follows_once, digits_keep}
use Rattle.trees.proofs.WalkedEdges.{tree_walk}
use Rattle.trees.proofs.ColourDigits.{length-coloured, length-digits_of, only_zero}

-- what holds at one index or another, and not at the first of them
pub other_place : (x u : ℕ) (b : Bool) → x ≢ u → ((x == u) || b) ≡ true → b ≡ true
other_place x u b ne h = grind (arith, nat_tests)

pub zero_there : is_member 0 (0 ∷ []) ≡ true
zero_there = refl

-- the digits of the walk
digits_same : (walk : List (ℕ × ℕ)) (before cs xs ys : List ℕ) → Within walk (length xs) → Within walk (length ys)
    → IsWalk walk before → (v : ℕ) → is_walked v walk ≡ true
    → get_or (digits_of walk cs xs) v 0 ≡ get_or (digits_of walk cs ys) v 0
digits_same [] before cs xs ys h k w v m = cc
digits_same (s ∷ walk) before cs xs ys h k w v m =
    let x = place_of (get_or cs s.0 0) (get_or cs s.1 0) in
    let own : (zs : List ℕ) → s.0 < length zs → get_or (digits_of walk cs (set zs s.0 x)) s.0 0 ≡ x =
    λ zs l. digits_keep walk (s.0 ∷ before) cs (set zs s.0 x) s.0 w.2 (now_there s.0 before)
    ∙ get_or-set_same zs s.0 x 0 l in
    ⊎_elim
    (λ e. subst (λ z. get_or (digits_of walk cs (set xs s.0 x)) z 0 ≡ get_or (digits_of walk cs (set ys s.0 x)) z 0) e (own xs h.0 ∙ sym (own ys k.0)))
    (λ ne. digits_same walk (s.0 ∷ before) cs (set xs s.0 x) (set ys s.0 x) (subst (λ n. Within walk n) (sym (length-set xs s.0 x)) h.1)
    (subst (λ n. Within walk n) (sym (length-set ys s.0 x)) k.1) w.2 v (other_place s.0 v (is_walked v walk) ne m))
    (cases_eq s.0 v)

all_digits_of : (n : ℕ) (es : List (ℕ × ℕ)) (cs xs : List ℕ) → is_tree n es ≡ true → length cs ≡ n → length xs ≡ n
    → get_or xs 0 0 ≡ get_or cs 0 0
    → digits_of (walk_in n es (0 ∷ [])) cs xs ≡ digits_of (walk_in n es (0 ∷ [])) cs cs
all_digits_of n es cs xs tree long same first =
    let walk = walk_in n es (0 ∷ []) in
    let t = tree_walk n es tree in
    let within : (ys : List ℕ) → length ys ≡ n → Within walk (length ys) =
    λ ys e. subst (λ m. Within walk m) (sym e) t.within in
    let at : get_or (digits_of walk cs xs) 0 0 ≡ get_or (digits_of walk cs cs) 0 0 =
    digits_keep walk (0 ∷ []) cs xs 0 t.walks zero_there ∙ first
    ∙ sym (digits_keep walk (0 ∷ []) cs cs 0 t.walks zero_there) in
    let count = length-digits_of walk cs xs in
    ext_get_or 0 (digits_of walk cs xs) (digits_of walk cs cs) (count ∙ same ∙ sym (length-digits_of walk cs cs ∙ long))
    (λ i k. ⊎_elim (λ z. subst (λ j. get_or (digits_of walk cs xs) j 0 ≡ get_or (digits_of walk cs cs) j 0) z at)
    (λ ne. digits_same walk (0 ∷ []) cs xs cs (within xs same) (within cs long) t.walks i (t.reaches i (omega arith) ne))
    (cases_eq 0 i))

all_coloured : (n : ℕ) (es : List (ℕ × ℕ)) (ds xs : List ℕ) → is_tree n es ≡ true → length ds ≡ n → length xs ≡ n
    → get_or xs 0 0 ≡ get_or ds 0 0
    → coloured (walk_in n es (0 ∷ [])) ds xs ≡ coloured (walk_in n es (0 ∷ [])) ds ds
all_coloured n es ds xs tree long same first =
    let walk = walk_in n es (0 ∷ []) in
    let t = tree_walk n es tree in
    let within : (ys : List ℕ) → length ys ≡ n → Within walk (length ys) =
    λ ys e. subst (λ m. Within walk m) (sym e) t.within in
    let at : get_or (coloured walk ds xs) 0 0 ≡ get_or (coloured walk ds ds) 0 0 =
    coloured_keeps walk (0 ∷ []) ds xs 0 t.walks zero_there ∙ first
    ∙ sym (coloured_keeps walk (0 ∷ []) ds ds 0 t.walks zero_there) in
    let along = follows_once walk (0 ∷ []) ds (coloured walk ds xs) (coloured walk ds ds) t.walks
    (λ u m. subst (λ z. get_or (coloured walk ds xs) z 0 ≡ get_or (coloured walk ds ds) z 0) (only_zero u m) at)
    (coloured_follows walk (0 ∷ []) ds xs t.walks (within xs same))
    (coloured_follows walk (0 ∷ []) ds ds t.walks (within ds long)) in
    let count = length-coloured walk ds xs in
    ext_get_or 0 (coloured walk ds xs) (coloured walk ds ds) (count ∙ same ∙ sym (length-coloured walk ds ds ∙ long))
    (λ i k. ⊎_elim (λ z. subst (λ j. get_or (coloured walk ds xs) j 0 ≡ get_or (coloured walk ds ds) j 0) z at)
    (λ ne. along i (t.reaches i (omega arith) ne)) (cases_eq 0 i))

-- ---- as the entries of the code's arrays
first_set : (n : ℕ) (es : List (ℕ × ℕ)) (xs : List ℕ) (x : ℕ) → is_tree n es ≡ true → length xs ≡ n
    → get_or (set xs 0 x) 0 0 ≡ x
first_set n es xs x tree long =
    let count : length es + 1 ≡ n = eqb-true (length es + 1) n (and_parts _ _ (and_parts _ _ tree).0).1 in
    get_or-set_same xs 0 x 0 (omega arith)

pub record AreDigitsOf (n : ℕ) (es : List (ℕ × ℕ)) (cs digits : List ℕ) : Type 0 where
  pub long : length digits ≡ n
  pub is : digits ≡ digits_of (walk_in n es (0 ∷ [])) cs cs

pub uncoloured : (n : ℕ) (es walk : List (ℕ × ℕ)) (cs digits : List ℕ) → n ≤ 11 → is_tree n es ≡ true → length cs ≡ n
    → walk ≡ walk_in n es (0 ∷ [])
    → digits ≡ digits_of walk cs (set (take n (replicate 11 0)) 0 (get_or cs 0 0)) → AreDigitsOf n es cs digits
uncoloured n es walk cs digits most tree long w d =
    let x = get_or cs 0 0 in
    let start : List ℕ = take n (replicate 11 0) in
    let same : length start ≡ n = length-take-le n (replicate 11 0) most in
    let is =
    d ∙ ap (λ z. digits_of z cs (set start 0 x)) w ∙ all_digits_of n es cs (set start 0 x) tree long
    (length-set start 0 x ∙ same) (first_set n es start x tree same) in
    record { long = ap length is ∙ length-digits_of (walk_in n es (0 ∷ [])) cs cs ∙ long; is = is }

pub recoloured : (n : ℕ) (es walk : List (ℕ × ℕ)) (ds start colours : List ℕ) → is_tree n es ≡ true → length ds ≡ n
    → length start ≡ n → walk ≡ walk_in n es (0 ∷ [])
    → colours ≡ coloured walk ds (set start 0 (get_or ds 0 0)) → colours ≡ coloured (walk_in n es (0 ∷ [])) ds ds
recoloured n es walk ds start colours tree long same w c =
    let x = get_or ds 0 0 in
    c ∙ ap (λ z. coloured z ds (set start 0 x)) w
    ∙ all_coloured n es ds (set start 0 x) tree long (length-set start 0 x ∙ same) (first_set n es start x tree same)
