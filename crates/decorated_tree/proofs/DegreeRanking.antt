-- Lists of degrees and their ranks, one number after the other: the lists with a smaller first number are passed, as a
-- whole binomial, and the rest is the rank of the other numbers.
use Rattle.std.proofs.Common.{◌≡◌, ℕ, zero, suc, ◌+◌, ◌-◌, ◌*◌, ◌<◌, ◌≤◌, Bool, true, nat_le, List, [], ◌∷◌, ◌++◌, length, get_or, set, take, drop, replicate, sum, refl, sym, ap, ◌∙◌, subst, arith, le-leb, leb-true, append_assoc, length-append}
use Rattle.std.specs.List.{list_all}
use Rattle.std.proofs.lemmas.List.{length-take-le}
use Rattle.std.proofs.lemmas.List.Sums.{sum_by-cons}
use Rattle.std.proofs.Math.Seq.{set-append_seam}
use Rattle.lists.specs.Padding.{padded}
use Rattle.trees.specs.DegreeLists.{AreDegrees, degree_lists}
use Rattle.lists.specs.Binomials.{choose}
use Rattle.std.proofs.lemmas.Bool.{and_parts, and_from}
use Rattle.trees.proofs.DegreeRanks.{ranked}
use Rattle.decorated_tree.specs.Ranks.{binomial_rank, lists_passed}
use Rattle.decorated_tree.proofs.BinomialRanks.{rank_by_binomials}

-- ---- binomials
pub pascal : (n k : ℕ) → 1 ≤ n → 1 ≤ k → choose n k ≡ choose (n - 1) (k - 1) + choose (n - 1) k
pascal zero k h j = absurd (omega arith)
pascal (suc n) zero h j = absurd (omega arith)
pascal (suc n) (suc k) h j =
    let a : n ≡ suc n - 1 = omega arith in
    let b : k ≡ suc k - 1 = omega arith in
    ap (λ z. choose z k + choose z (suc k)) a ∙ ap (λ z. choose (suc n - 1) z + choose (suc n - 1) (suc k)) b

pub choose_some : (n k : ℕ) → 0 < choose n k → k ≤ n
choose_some n zero h = omega arith
choose_some zero (suc k) h = absurd (omega arith)
choose_some (suc n) (suc k) h = by (choose n k) refl (choose_some n (suc k)) (choose_some n k)
  where
    by : (z : ℕ) → choose n k ≡ z → (0 < choose n (suc k) → suc k ≤ n) → (0 < choose n k → k ≤ n) → suc k ≤ suc n
    by zero e f g = let l = f (omega arith) in omega arith
    by (suc z) e f g = let l = g (omega arith) in omega arith

pub passed-more : (d n b : ℕ) → 1 ≤ b → lists_passed d n b ≡ lists_passed d n (b - 1) + choose (d - b - 1) (n - 1)
passed-more d n zero h = absurd (omega arith)
passed-more d n (suc b) h =
    let a : b ≡ suc b - 1 = omega arith in
    let e : b + 1 ≡ suc b = omega arith in
    ap (λ z. lists_passed d n z + choose (d - (b + 1) - 1) (n - 1)) a
    ∙ ap (λ z. lists_passed d n (suc b - 1) + choose (d - z - 1) (n - 1)) e

-- ---- the first number
pub record IsFirst (total others rank degree rest : ℕ) : Type 0 where
  pub positive : 1 ≤ degree
  pub below : rest < choose (total - degree) others
  pub passed : rank ≡ lists_passed total others (degree - 1) + rest

pub first_step : (total others rank degree rest passed : ℕ) → 1 ≤ others → degree < total
    → passed ≡ choose (total - degree - 1) (others - 1) → passed ≤ rest
    → IsFirst total others rank degree rest → IsFirst total others rank (degree + 1) (rest - passed)
first_step total others rank degree rest passed some less is h f =
    let p = pascal (total - degree) others (omega arith) some in
    let same : total - degree - 1 ≡ total - (degree + 1) = omega arith in
    let later : choose (total - degree - 1) others ≡ choose (total - (degree + 1)) others =
    ap (λ z. choose z others) same in
    let more = passed-more total others degree f.positive in
    let below = f.below in
    let is_rank = f.passed in
    let one : degree + 1 - 1 ≡ degree = omega arith in
    let sums : lists_passed total others (degree + 1 - 1) ≡ lists_passed total others degree =
    ap (lists_passed total others) one in
    record { positive = omega arith; below = omega arith; passed = omega arith }

pub first_less : (total others rank degree rest : ℕ) → 1 ≤ others → degree < total
    → rest < choose (total - degree - 1) (others - 1) → degree + others ≤ total
first_less total others rank degree rest some less h =
    let l = choose_some (total - degree - 1) (others - 1) (omega arith) in omega arith

pub none_left : (total others rank degree rest : ℕ) → 1 ≤ others → total ≤ degree
    → IsFirst total others rank degree rest → ⊥
none_left total others rank degree rest some h f =
    let zero_left : total - degree ≡ 0 = omega arith in
    let less : rest < choose 0 others = subst (λ z. rest < choose z others) zero_left f.below in
    no_choice others some less
  where
    no_choice : (k : ℕ) → 1 ≤ k → rest < choose 0 k → ⊥
    no_choice zero h l = omega arith
    no_choice (suc k) h l = omega arith

-- ---- the whole list
pub record IsMade (count total rank place : ℕ) (degrees : List ℕ) (left rest : ℕ) : Type 0 where
  pub made : List ℕ
  pub long : length made ≡ place
  pub places : degrees ≡ made ++ replicate (10 - place) 0
  pub enough : count - place ≤ left
  pub most : left ≤ total
  pub below : rest < choose (left - 1) (count - place - 1)
  pub lists : (tail : List ℕ) → AreDegrees (count - place) left tail
      → AreDegrees count total (made ++ tail) × (binomial_rank (made ++ tail) total + rest ≡ rank + binomial_rank tail left)

rank-first : (f left k : ℕ) (tail : List ℕ) → length tail ≡ k → 1 ≤ k
    → binomial_rank (f ∷ tail) left ≡ lists_passed left k (f - 1) + binomial_rank tail (left - f)
rank-first f left k [] e h = absurd (omega arith)
rank-first f left k (b ∷ ds) e h = ap (λ z. lists_passed left z (f - 1) + binomial_rank (b ∷ ds) (left - f)) e

pub degrees-cons : (k left f : ℕ) (tail : List ℕ) → 1 ≤ f → f ≤ left → AreDegrees k (left - f) tail
    → AreDegrees (suc k) left (f ∷ tail)
degrees-cons k left f tail h l a = record {
  long = ap suc a.long;
  positive = and_from (nat_le 1 f) (list_all (λ a. nat_le 1 a) tail) (le-leb 1 f h) a.positive;
  total = (let s = sum_by-cons (λ z. z) f tail in let t = a.total in omega arith);
}

set_next : (made : List ℕ) (place f : ℕ) → length made ≡ place → place < 10
    → set (made ++ replicate (10 - place) 0) place f ≡ (made ++ f ∷ []) ++ replicate (10 - (place + 1)) 0
set_next made place f e h =
    let more : 10 - place ≡ suc (10 - (place + 1)) = omega arith in
    ap (λ k. set (made ++ replicate k 0) place f) more
    ∙ ap (λ k. set (made ++ 0 ∷ replicate (10 - (place + 1)) 0) k f) (sym e)
    ∙ set-append_seam made 0 (replicate (10 - (place + 1)) 0) f
    ∙ sym (append_assoc made (f ∷ []) (replicate (10 - (place + 1)) 0))

pub made_step : (count total rank place : ℕ) (degrees : List ℕ) (left rest f others next : ℕ) → total ≤ 10
    → count ≤ total → place + 1 < count → others ≡ count - 1 - place
    → 1 ≤ f → f + others ≤ left → next < choose (left - f - 1) (others - 1)
    → rest ≡ lists_passed left others (f - 1) + next
    → IsMade count total rank place degrees left rest
    → IsMade count total rank (place + 1) (set degrees place f) (left - f) next
made_step count total rank place degrees left rest f others next small short less is some enough below passed m =
    let made = m.made in
    let long = m.long in
    let m_enough = m.enough in
    let m_most = m.most in
    let k : count - (place + 1) ≡ others = omega arith in
    let back : suc others ≡ count - place = omega arith in
    record {
      made = made ++ f ∷ [];
      long = length-append made (f ∷ []) ∙ (let e : length made + 1 ≡ place + 1 = omega arith in e);
      places = ap (λ l. set l place f) m.places ∙ set_next made place f long (omega arith);
      enough = omega arith;
      most = omega arith;
      below = subst (λ z. next < choose (left - f - 1) (z - 1)) (sym k) below;
      lists = λ tail a. (let own : AreDegrees others (left - f) tail = subst (λ z. AreDegrees z (left - f) tail) k a in
          let whole : AreDegrees (count - place) left (f ∷ tail) =
          subst (λ z. AreDegrees z left (f ∷ tail)) back (degrees-cons others left f tail some (omega arith) own) in
          let r = m.lists (f ∷ tail) whole in
          let same : made ++ f ∷ tail ≡ (made ++ f ∷ []) ++ tail = sym (append_assoc made (f ∷ []) tail) in
          let first = rank-first f left others tail own.long (omega arith) in
          let sums = r.1 in
          let ranks : binomial_rank (made ++ f ∷ tail) total ≡ binomial_rank ((made ++ f ∷ []) ++ tail) total =
          ap (λ l. binomial_rank l total) same in
          (subst (AreDegrees count total) same r.0, omega arith));
    }

pub made_end : (count total rank : ℕ) (degrees : List ℕ) (left rest place : ℕ) → 1 ≤ count → count ≤ total → total ≤ 10
    → place ≡ count - 1
    → IsMade count total rank place degrees left rest
    → set degrees place left ≡ padded 0 10 (get_or (degree_lists count total) rank [])
made_end count total rank degrees left rest place some enough small is m =
    let made = m.made in
    let long = m.long in
    let m_enough = m.enough in
    let one : count - place ≡ 1 = omega arith in
    let none : count - place - 1 ≡ 0 = omega arith in
    let last : rest < choose (left - 1) 0 = subst (λ z. rest < choose (left - 1) z) none m.below in
    let single : AreDegrees (count - place) left (left ∷ []) =
    subst (λ z. AreDegrees z left (left ∷ [])) (sym one)
    (degrees-cons 0 left left [] (omega arith) (omega arith) (record { long = refl; positive = refl; total = zero_sum })) in
    let r = m.lists (left ∷ []) single in
    let sums = r.1 in
    let up : count ≡ count + 1 - 1 = omega arith in
    let own : AreDegrees (count + 1 - 1) total (made ++ left ∷ []) =
    subst (λ z. AreDegrees z total (made ++ left ∷ [])) up r.0 in
    let binomial : binomial_rank (made ++ left ∷ []) total ≡ rank = omega arith in
    let rank_is =
    rank_by_binomials (count + 1) total (made ++ left ∷ []) (omega arith) (omega arith) (omega arith) own ∙ binomial in
    let found = (ranked (count + 1) total (omega arith) (omega arith) (omega arith)).there_of (made ++ left ∷ []) own in
    let list : get_or (degree_lists count total) rank [] ≡ made ++ left ∷ [] =
    ap (λ z. get_or (degree_lists z total) rank []) up ∙ ap (λ z. get_or (degree_lists (count + 1 - 1) total) z [])
    (sym rank_is) ∙ found in
    let whole : length (made ++ left ∷ []) ≡ place + 1 = length-append made (left ∷ []) ∙ ap (λ z. z + 1) long in
    ap (λ l. set l place left) m.places ∙ set_next made place left long (omega arith)
    ∙ ap (λ z. (made ++ left ∷ []) ++ replicate (10 - z) 0) (sym whole) ∙ ap (padded 0 10) (sym list)
  where
    zero_sum : sum [] ≡ left - left
    zero_sum = omega arith

-- ---- the rank of a list
pub record IsPassed (total others first lists : ℕ) : Type 0 where
  pub value : lists ≡ lists_passed total others first
  pub limited : lists ≤ 256 * first

-- the parts of a list of degrees with more than one number
pub record DegreeParts (total a : ℕ) (ds : List ℕ) : Type 0 where
  pub some : 1 ≤ a
  pub less : a + length ds ≤ total
  pub rest : AreDegrees (length ds) (total - a) ds

sum-least : (ds : List ℕ) → list_all (λ a. nat_le 1 a) ds ≡ true → length ds ≤ sum ds
sum-least [] h = omega arith
sum-least (a ∷ ds) h =
    let p = and_parts (nat_le 1 a) (list_all (λ a. nat_le 1 a) ds) h in
    let s = sum_by-cons (λ z. z) a ds in
    let some : 1 ≤ a = leb-true 1 a p.0 in
    let l = sum-least ds p.1 in
    omega arith

pub degree_parts : (total a : ℕ) (ds : List ℕ) → AreDegrees (length (a ∷ ds)) total (a ∷ ds) → DegreeParts total a ds
degree_parts total a ds h =
    let p = and_parts (nat_le 1 a) (list_all (λ a. nat_le 1 a) ds) h.positive in
    let s = sum_by-cons (λ z. z) a ds in
    let t = h.total in
    let l = sum-least ds p.1 in
    record { some = leb-true 1 a p.0; less = omega arith; rest = record { long = refl; positive = p.1; total = omega arith } }

pub rank-cons : (total a : ℕ) (ds : List ℕ) → 1 ≤ length ds
    → binomial_rank (a ∷ ds) total ≡ lists_passed total (length ds) (a - 1) + binomial_rank ds (total - a)
rank-cons total a ds h = rank-first a total (length ds) ds refl h

pub short_tail : (xs : List ℕ) → length (take (length xs - 1) (drop 1 xs)) ≡ length xs - 1
short_tail [] = omega arith
short_tail (x ∷ xs) = length-take-le (length (x ∷ xs) - 1) xs (omega arith)

pub few_degrees : (total : ℕ) (xs : List ℕ) → AreDegrees (length xs) total xs → length xs ≤ total
few_degrees total xs h = let l = sum-least xs h.positive in let t = h.total in omega arith

pub first_small : (total : ℕ) (xs : List ℕ) → AreDegrees (length xs) total xs → get_or xs 0 0 ≤ total
first_small total [] h = omega arith
first_small total (x ∷ xs) h = let p = degree_parts total x xs h in let l = p.less in omega arith
