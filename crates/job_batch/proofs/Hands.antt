-- Lists of hands, and counts in lists of places.
use Rattle.std.proofs.Common.{◌≡◌, ◌≢◌, ℕ, zero, suc, ◌+◌, ◌*◌, ◌<◌, ◌≤◌, List, [], ◌∷◌, ◌++◌, length, set, sym, refl, ap, subst, ⊎_elim, arith}
use mathlib.Core.Logic.{dite}
use native.Mathlib.Decide.{ℕ_discrete}
use mathlib.Core.Option.{some, some-injective, some-ne-none}
use lib.ListN.{get_elem?}
use Rattle.crossbeam_deque.proofs.Lists.{at_set, at_snoc}
use Rattle.claim_table.specs.Counts.{occurrences, total, sum_below}
use Rattle.claim_table.proofs.Lists.{total_by_occurrences, at_most_total, bit_ne}
use Rattle.job_batch.specs.declared.rule.Hand.{Hand}

-- what holds of each hand
abbrev pub Each : (Hand → Type 0) → List Hand → Type 0
Each P hands = (port : ℕ) (v : Hand) → get_elem? hands port ≡ some v → P v

pub each_set : (P : Hand → Type 0) (hands : List Hand) (port : ℕ) (w : Hand)
    → ((j : ℕ) (u : Hand) → j ≢ port → get_elem? hands j ≡ some u → P u) → P w → Each P (set hands port w)
each_set P hands port w others new j u e = ⊎_elim (λ (x : (j ≡ port) × (w ≡ u)). subst P x.1 new)
    (λ (x : (j ≢ port) × (get_elem? hands j ≡ some u)). others j u x.0 x.1) (at_set hands port j w u e)

pub each_snoc : (P : Hand → Type 0) (hands : List Hand) (w : Hand) → Each P hands → P w → Each P (hands ++ w ∷ [])
each_snoc P hands w all new j u e = ⊎_elim (λ x. all j u x) (λ (x : w ≡ u). subst P x new) (at_snoc hands w u j e)

none_total : (f : Hand → ℕ) (hands : List Hand) → Each (λ u. f u ≡ 0) hands → total f hands ≡ 0
none_total f [] none = refl
none_total f (u ∷ us) none = omega (arith, none 0 u refl, none_total f us (λ j w e. none (suc j) w e))

no_weight : (g : Hand → ℕ) (hands : List Hand) → total g hands ≡ 0 → Each (λ u. g u ≡ 0) hands
no_weight g hands none j u e = omega (arith, at_most_total g hands j u e)

-- where one hand has all of g, the others have none
pub others_none : (g : Hand → ℕ) (hands : List Hand) (port : ℕ) (v : Hand) → get_elem? hands port ≡ some v
    → total g hands ≡ g v → (j : ℕ) (u : Hand) → j ≢ port → get_elem? hands j ≡ some u → g u ≡ 0
others_none g [] port v at whole j u apart e = absurd (some-ne-none v (sym at))
others_none g (x ∷ xs) zero v at whole zero u apart e = absurd (apart refl)
others_none g (x ∷ xs) zero v at whole (suc j) u apart e =
    let here : g x ≡ g v = ap g (some-injective x v at) in
    omega (arith, at_most_total g xs j u e)
others_none g (x ∷ xs) (suc port) v at whole zero u apart e =
    let here : g x ≡ g u = ap g (some-injective x u e) in
    omega (arith, at_most_total g xs port v at)
others_none g (x ∷ xs) (suc port) v at whole (suc j) u apart e =
    let most = at_most_total g xs port v at in
    others_none g xs port v at (omega arith) j u (λ same. apart (ap suc same)) e

-- where one hand has all of g, and a hand with no g has no f, it has all of f
pub all_here : (g f : Hand → ℕ) (hands : List Hand) (port : ℕ) (v : Hand) → get_elem? hands port ≡ some v
    → total g hands ≡ g v → Each (λ u. g u ≡ 0 → f u ≡ 0) hands → total f hands ≡ f v
all_here g f [] port v at whole none = absurd (some-ne-none v (sym at))
all_here g f (u ∷ us) zero v at whole none =
    let same = some-injective u v at in
    let here : g u ≡ g v = ap g same in
    let there : f u ≡ f v = ap f same in
    let rest : total g us ≡ 0 = omega arith in
    let nothing = none_total f us (λ j w e. none (suc j) w e (no_weight g us rest j w e)) in
    omega arith
all_here g f (u ∷ us) (suc j) v at whole none =
    let most = at_most_total g us j v at in
    let empty : g u ≡ 0 = omega arith in
    let nothing = none 0 u refl empty in
    omega (arith, all_here g f us j v at (omega arith) (λ k w e. none (suc k) w e))

-- a number above each of the list
abbrev above : List ℕ → ℕ
above [] = 0
above (x ∷ xs) = suc x + above xs

is_above : (x : ℕ) (xs : List ℕ) → 0 < occurrences x xs → x < above xs
is_above x [] there = absurd (omega arith)
is_above x (y ∷ ys) there = dite (ℕ_discrete y x) (λ is. omega arith)
    (λ isnt. let none = bit_ne y x isnt in omega (arith, is_above x ys (omega arith)))

sum_below_le : (n : ℕ) (f g : ℕ → ℕ) → ((b : ℕ) → f b ≤ g b) → sum_below n f ≤ sum_below n g
sum_below_le zero f g h = omega arith
sum_below_le (suc n) f g h = omega (arith, sum_below_le n f g h, h n)

length_is : (xs : List ℕ) → total (λ _. 1) xs ≡ length xs
length_is [] = refl
length_is (x ∷ xs) = omega (arith, length_is xs)

-- a list in which each number stands at most as often as in another is at most as long
pub no_longer : (xs ys : List ℕ) → ((x : ℕ) → occurrences x xs ≤ occurrences x ys) → length xs ≤ length ys
no_longer xs ys h =
    let n = above ys in
    let a = total_by_occurrences n (λ _. 1) xs (λ x there. is_above x ys (omega (arith, h x))) in
    let b = total_by_occurrences n (λ _. 1) ys (λ x there. is_above x ys there) in
    let c = sum_below_le n (λ b. occurrences b xs * 1) (λ b. occurrences b ys * 1) (λ b. omega (arith, h b)) in
    omega (arith, length_is xs, length_is ys)
