-- Lists of degrees with sums up to ten, and their ranks, correspond.
use Rattle.std.proofs.Common.{◌≡◌, ℕ, zero, suc, ◌+◌, ◌-◌, ◌<◌, ◌≤◌, Bool, true, ◌&&◌, ◌==◌, nat_le, List, [], ◌∷◌, length, get_or, map, refl, sym, ap, ◌∙◌, subst, ⊎_elim, arith, eqb-true, leb-true, le-leb}
use Rattle.std.specs.List.{list_all}
use Rattle.std.proofs.lemmas.List.Sums.{sum_by-cons}
use Rattle.lists.specs.Ranges.{below, counted_from}
use Rattle.trees.specs.DegreeLists.{AreDegrees, degree_lists, rank_of}
use Rattle.lists.specs.Binomials.{choose}
use Rattle.lists.specs.Members.{IsIn, here}
use Rattle.lists.proofs.Members.{nothing_in, in_cons, in_map, in_flat_map, from_flat_map, ComesFrom, each_of, from_map, in_place, place_in}
use Rattle.std.proofs.lemmas.Bool.{and_parts, and_from}
use Rattle.lists.proofs.Ranges.{in_below, in_counted_from, from_counted}

pub are_degrees : (k d : ℕ) (ds : List ℕ) → IsIn ds (degree_lists k d) → AreDegrees k d ds
are_degrees zero zero ds i = ⊎_elim (λ e. subst (AreDegrees 0 0) (sym e) (record { long = refl; positive = refl; total = refl })) (λ j. absurd (nothing_in j)) (in_cons i)
are_degrees zero (suc d) ds i = absurd (nothing_in i)
are_degrees (suc k) d ds i = step (from_flat_map (λ a. map (λ ds. a ∷ ds) (degree_lists k (d - a))) (counted_from 1 d) i) (are_degrees k)
  where
    step : ComesFrom (λ a. map (λ ds. a ∷ ds) (degree_lists k (d - a))) (counted_from 1 d) ds
        → ((d : ℕ) (ds : List ℕ) → IsIn ds (degree_lists k d) → AreDegrees k d ds) → AreDegrees (suc k) d ds
    step c f =
        let a = c.source in
        let within = from_counted 1 d a c.is_in in
        let r = from_map (λ ds. a ∷ ds) (degree_lists k (d - a)) c.gives in
        let rest = f (d - a) r.0 r.1 in
        subst (AreDegrees (suc k) d) (sym r.2) (record {
          long = ap suc rest.long;
          positive = and_from (nat_le 1 a) (list_all (λ a. nat_le 1 a) r.0) (le-leb 1 a within.0) rest.positive;
          total = (let s = sum_by-cons (λ z. z) a r.0 in let t = rest.total in let w = within.1 in omega arith);
        })

pub in_degree_lists : (k d : ℕ) (ds : List ℕ) → AreDegrees k d ds → IsIn ds (degree_lists k d)
in_degree_lists zero zero [] h = here
in_degree_lists zero (suc d) [] h = absurd (let t = h.total in omega arith)
in_degree_lists zero d (a ∷ ds) h = absurd (let l = h.long in omega arith)
in_degree_lists (suc k) d [] h = absurd (let l = h.long in omega arith)
in_degree_lists (suc k) d (a ∷ ds) h =
    let p = and_parts (nat_le 1 a) (list_all (λ a. nat_le 1 a) ds) h.positive in
    let some : 1 ≤ a = leb-true 1 a p.0 in
    let s = sum_by-cons (λ z. z) a ds in
    let t = h.total in
    let l = h.long in
    in_flat_map (λ a. map (λ ds. a ∷ ds) (degree_lists k (d - a))) {x = a} (counted_from 1 d) (in_counted_from 1 d a some (omega arith))
    (in_map (λ ds. a ∷ ds) (in_degree_lists k (d - a) ds (record { long = omega arith; positive = p.1; total = omega arith })))

-- the numbers that a rank gives to the lists are q, q + 1 and so on
unfoldable pub ranks_from : (List ℕ → ℕ → ℕ) → List (List ℕ) → ℕ → ℕ → Bool
ranks_from rank [] d q = true
ranks_from rank (ds ∷ rest) d q = (rank ds d == q) && ranks_from rank rest d (q + 1)

-- the ranks of all lists of degrees with sums up to ten, by computing
pub all_ranks : list_all (λ d. list_all (λ k. ranks_from rank_of (degree_lists (k + 1) (d + 1)) (d + 1) 0 && (length (degree_lists (k + 1) (d + 1)) == choose d k)) (below 10)) (below 10) ≡ true
unfolding ranks_from rank_of
all_ranks = refl

pub rank_at : (rank : List ℕ → ℕ → ℕ) (lists : List (List ℕ)) (d first q : ℕ) → ranks_from rank lists d first ≡ true → q < length lists
    → rank (get_or lists q []) d ≡ first + q
unfolding ranks_from
rank_at rank [] d first q h k = absurd (omega arith)
rank_at rank (ds ∷ lists) d first zero h k =
    let e = eqb-true (rank ds d) first (and_parts (rank ds d == first) (ranks_from rank lists d (first + 1)) h).0 in omega arith
rank_at rank (ds ∷ lists) d first (suc q) h k =
    let e = rank_at rank lists d (first + 1) q (and_parts (rank ds d == first) (ranks_from rank lists d (first + 1)) h).1 (omega arith) in omega arith

-- what was computed for each length and each sum
ranks : (k d : ℕ) → k < 10 → d < 10
    → (ranks_from rank_of (degree_lists (k + 1) (d + 1)) (d + 1) 0 ≡ true) × (length (degree_lists (k + 1) (d + 1)) ≡ choose d k)
ranks k d h j =
    let row = each_of (λ d. list_all (λ k. ranks_from rank_of (degree_lists (k + 1) (d + 1)) (d + 1) 0 && (length (degree_lists (k + 1) (d + 1)) == choose d k)) (below 10)) (below 10) all_ranks (in_below 10 d j) in
    let p = and_parts _ _ (each_of (λ k. ranks_from rank_of (degree_lists (k + 1) (d + 1)) (d + 1) 0 && (length (degree_lists (k + 1) (d + 1)) == choose d k)) (below 10) row (in_below 10 k h)) in
    (p.0, eqb-true (length (degree_lists (k + 1) (d + 1))) (choose d k) p.1)

-- ---- lists of n - 1 degrees with the sum d
pub record Ranks (n d : ℕ) : Type 0 where
  pub count : length (degree_lists (n - 1) d) ≡ choose (d - 1) (n - 2)
  pub degrees : (q : ℕ) → q < choose (d - 1) (n - 2) → AreDegrees (n - 1) d (get_or (degree_lists (n - 1) d) q [])
  pub back : (q : ℕ) → q < choose (d - 1) (n - 2) → rank_of (get_or (degree_lists (n - 1) d) q []) d ≡ q
  pub within : (ds : List ℕ) → AreDegrees (n - 1) d ds → rank_of ds d < choose (d - 1) (n - 2)
  pub there_of : (ds : List ℕ) → AreDegrees (n - 1) d ds → get_or (degree_lists (n - 1) d) (rank_of ds d) [] ≡ ds

of_ranks : (n d : ℕ) → (ranks_from rank_of (degree_lists (n - 1) d) d 0 ≡ true) × (length (degree_lists (n - 1) d) ≡ choose (d - 1) (n - 2)) → Ranks n d
of_ranks n d r =
    let long = r.1 in
    let at : (q : ℕ) → q < length (degree_lists (n - 1) d) → rank_of (get_or (degree_lists (n - 1) d) q []) d ≡ q = λ q h. rank_at rank_of (degree_lists (n - 1) d) d 0 q r.0 h ∙ (omega arith) in
    let found : (ds : List ℕ) → AreDegrees (n - 1) d ds → (rank_of ds d < length (degree_lists (n - 1) d)) × (get_or (degree_lists (n - 1) d) (rank_of ds d) [] ≡ ds) =
    λ ds h. (let p = place_in (degree_lists (n - 1) d) [] ds (in_degree_lists (n - 1) d ds h) in
    let e : p.place ≡ rank_of ds d = sym (at p.place p.within) ∙ ap (λ z. rank_of z d) p.is in
    (subst (λ z. z < length (degree_lists (n - 1) d)) e p.within, subst (λ z. get_or (degree_lists (n - 1) d) z [] ≡ ds) e p.is)) in
    record {
      count = long;
      degrees = λ q h. are_degrees (n - 1) d (get_or (degree_lists (n - 1) d) q []) (in_place (degree_lists (n - 1) d) [] q (omega arith));
      back = λ q h. at q (omega arith);
      within = λ ds h. subst (λ z. rank_of ds d < z) long (found ds h).0;
      there_of = λ ds h. (found ds h).1;
    }

pub ranked : (n d : ℕ) → 2 ≤ n → n ≤ d + 1 → d < 11 → Ranks n d
ranked n d least most small =
    let r = ranks (n - 2) (d - 1) (omega arith) (omega arith) in
    let first : n - 2 + 1 ≡ n - 1 = omega arith in
    let second : d - 1 + 1 ≡ d = omega arith in
    of_ranks n d (subst (λ x. (ranks_from rank_of (degree_lists (n - 1) x) x 0 ≡ true) × (length (degree_lists (n - 1) x) ≡ choose (d - 1) (n - 2))) second
    (subst (λ x. (ranks_from rank_of (degree_lists x (d - 1 + 1)) (d - 1 + 1) 0 ≡ true) × (length (degree_lists x (d - 1 + 1)) ≡ choose (d - 1) (n - 2))) first r))
