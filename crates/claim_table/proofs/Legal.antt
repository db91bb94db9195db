-- The owners of blocks that were taken once are their takers, so the claims are legal. Over any seats that have a
-- record each.
use Rattle.std.proofs.Common.{◌≡◌, ℕ, zero, suc, ◌+◌, ◌*◌, ◌<◌, ◌≤◌, Bool, eqb, eq-eqb, ne_eqb, ltb, leb, ◌&&◌, List, [], ◌∷◌, ◌++◌, length, get_or, map, take, set, sym, refl, ap, ◌∙◌, subst, arith}
use Rattle.std.proofs.lemmas.List.{take_more, get_or-set_same, get_or-set_other}
use Rattle.std.proofs.lemmas.Bool.{lt-ltb, le-ltb}
use Rattle.std.proofs.lemmas.Bool.Decides.{nat_tests}
use mathlib.Core.Logic.{dite}
use native.Mathlib.Decide.{ℕ_discrete, dec_lt}
use Rattle.claim_table.specs.declared.claimer.Plan.{Plan}
use Rattle.claim_table.specs.declared.claimer.Record.{Record}
use Rattle.claim_table.specs.Counts.{bit, occurrences, total, sum_below, once_below}
use Rattle.claim_table.specs.Claims.{given, takes_of, IsShareOf, IsLegal}
use Rattle.claim_table.proofs.Lists.{occurrences-append, at_most_or, bit_eq, bit_ne, get_or-map, length-map_is, some_item, sum_below_add, sum_below_same, sum_below_none, total_by_occurrences, mul_add}

-- the last worker of a list to have taken the block, and else the owner that there was
abbrev pub owner_after : ℕ → List Record → ℕ → ℕ
owner_after b [] owner = owner
owner_after b (r ∷ rs) owner = owner_after b rs (given (occurrences b r.taken) r.worker owner)

-- the workers are numbered from k on
abbrev pub Numbered : ℕ → List Record → Type 0
Numbered k rs = (j : ℕ) (d : Record) → j < length rs → (get_or rs j d).worker ≡ k + j

given_some : (n worker o : ℕ) → 0 < n → given n worker o ≡ worker
given_some zero worker o h = absurd (omega arith)
given_some (suc n) worker o h = refl

by_block : (b worker o : ℕ) (owners : List ℕ) (n x : ℕ) → x < length owners → get_or owners b 0 ≡ given n worker o
    → Dec (x ≡ b) → get_or (set owners x worker) b 0 ≡ given (n + (bit (eqb x b) + 0)) worker o
by_block b worker o owners n x within e (yes is) = let k : bit (eqb x b) ≡ 1 = ap bit (eq-eqb x b is) in
    subst (λ (y : ℕ). get_or (set owners x worker) y 0 ≡ given (n + (bit (eqb x b) + 0)) worker o) is
    (get_or-set_same owners x worker 0 within ∙ sym (given_some (n + (bit (eqb x b) + 0)) worker o (omega arith)))
by_block b worker o owners n x within e (no isnt) =
    let k : bit (eqb x b) ≡ 0 = ap bit (ne_eqb x b isnt) in
    let z : n + (bit (eqb x b) + 0) ≡ n = omega arith in
    get_or-set_other owners x b worker 0 (λ q. isnt (sym q)) ∙ e ∙ sym (ap (λ m. given m worker o) z)

-- one more block of the list has its owner
pub give_more : (b worker o : ℕ) (owners taken : List ℕ) (i : ℕ) → i < length taken
    → get_or taken i 0 < length owners → get_or owners b 0 ≡ given (occurrences b (take i taken)) worker o
    → get_or (set owners (get_or taken i 0) worker) b 0 ≡ given (occurrences b (take (i + 1) taken)) worker o
give_more b worker o owners taken i lt within e = rw (
  take_more taken i 0 lt,
  occurrences-append b (take i taken) (get_or taken i 0 ∷ []),
)
    (by_block b worker o owners (occurrences b (take i taken)) (get_or taken i 0) within e
    (ℕ_discrete (get_or taken i 0) b))

same_owner : (b o : ℕ) (rs : List Record) → total (takes_of b) rs ≡ 0 → owner_after b rs o ≡ o
same_owner b o [] e = refl
same_owner b o (r ∷ rs) e = let z : occurrences b r.taken ≡ 0 = omega arith in
    ap (λ n. owner_after b rs (given n r.worker o)) z ∙ same_owner b o rs (omega arith)

rest_numbered : (k : ℕ) (r : Record) (rs : List Record) → Numbered k (r ∷ rs) → Numbered (k + 1) rs
rest_numbered k r rs h j d lt = omega (arith, h (suc j) d (omega arith))

owner_above : (b o k : ℕ) (rs : List Record) → Numbered k rs → 0 < total (takes_of b) rs → k ≤ owner_after b rs o
owner_above b o k [] h e = absurd (omega arith)
owner_above b o k (r ∷ rs) h e =
    let first : r.worker ≡ k + 0 = h 0 r (omega arith) in
    dite (dec_lt 0 (total (takes_of b) rs))
    (λ more. omega (
      arith,
      owner_above b (given (occurrences b r.taken) r.worker o) (k + 1) rs
          (rest_numbered k r rs h) more,
    ))
    (λ none. let z : total (takes_of b) rs ≡ 0 = omega arith in
    let s = same_owner b (given (occurrences b r.taken) r.worker o) rs z in
    omega (arith, given_some (occurrences b r.taken) r.worker o (omega arith)))

-- the owner of a block that was taken is a worker of the list
owner_below : (b o k : ℕ) (rs : List Record) → Numbered k rs → 0 < total (takes_of b) rs
    → owner_after b rs o < k + length rs
owner_below b o k [] h e = absurd (omega arith)
owner_below b o k (r ∷ rs) h e =
    let first : r.worker ≡ k + 0 = h 0 r (omega arith) in
    dite (dec_lt 0 (total (takes_of b) rs))
    (λ more. omega (
      arith,
      owner_below b (given (occurrences b r.taken) r.worker o) (k + 1) rs
          (rest_numbered k r rs h) more,
    ))
    (λ none. let z : total (takes_of b) rs ≡ 0 = omega arith in
    let s = same_owner b (given (occurrences b r.taken) r.worker o) rs z in
    omega (arith, given_some (occurrences b r.taken) r.worker o (omega arith)))

-- the owner of a block that was taken once is its taker
pub taker_owns : (b o k : ℕ) (rs : List Record) → Numbered k rs → total (takes_of b) rs ≡ 1 → (j : ℕ) (d : Record)
    → j < length rs → occurrences b (get_or rs j d).taken ≡ bit (eqb (owner_after b rs o) (k + j))
taker_owns b o k [] h e j d lt = absurd (omega arith)
taker_owns b o k (r ∷ rs) h e zero d lt = let first : r.worker ≡ k + 0 = h 0 r (omega arith) in
    let w : ℕ = given (occurrences b r.taken) r.worker o in
    dite (dec_lt 0 (occurrences b r.taken)) (λ some_there. let z : total (takes_of b) rs ≡ 0 = omega arith in
    let s = same_owner b w rs z in
    let g = given_some (occurrences b r.taken) r.worker o some_there in
    omega (arith, bit_eq (owner_after b rs w) (k + 0) (omega arith)))
    (λ none. let a = owner_above b w (k + 1) rs (rest_numbered k r rs h) (omega arith) in
    omega (arith, bit_ne (owner_after b rs w) (k + 0) (λ i. omega arith)))
taker_owns b o k (r ∷ rs) h e (suc j) d lt = let first : r.worker ≡ k + 0 = h 0 r (omega arith) in
    let w : ℕ = given (occurrences b r.taken) r.worker o in
    dite (dec_lt 0 (occurrences b r.taken)) (λ some_there. let z : total (takes_of b) rs ≡ 0 = omega arith in
    let s = same_owner b w rs z in
    let g = given_some (occurrences b r.taken) r.worker o some_there in
    let m = at_most_or (takes_of b) rs j d (omega arith) in
    omega (arith, bit_ne (owner_after b rs w) (k + suc j) (λ i. omega arith)))
    (λ none. let i = taker_owns b w (k + 1) rs (rest_numbered k r rs h) (omega arith) j d (omega arith) in
    let p : k + 1 + j ≡ k + suc j = omega arith in i ∙ ap (λ n. bit (eqb (owner_after b rs w) n)) p)

pub owner_after-one : (b o : ℕ) (rs : List Record) (r : Record)
    → owner_after b (rs ++ r ∷ []) o ≡ given (occurrences b r.taken) r.worker (owner_after b rs o)
owner_after-one b o [] r = refl
owner_after-one b o (s ∷ rs) r = owner_after-one b (given (occurrences b s.taken) s.worker o) rs r

is_below : (b n w k : ℕ) → b < n → bit (ltb b n && eqb w k) ≡ bit (eqb w k)
is_below b n w k h = ap (λ t. bit (t && eqb w k)) (lt-ltb b n h)

not_below : (b n w k : ℕ) → n ≤ b → bit (ltb b n && eqb w k) ≡ 0
not_below b n w k h = ap (λ t. bit (t && eqb w k)) (le-ltb b n h)

once_within : (n b : ℕ) → b < n → once_below n b ≡ 1
once_within n b h = grind (arith, nat_tests)

once_past : (n b : ℕ) → n ≤ b → once_below n b ≡ 0
once_past n b h = grind (arith, nat_tests)

-- Seats in the order of their workers, that took each block once among them and nothing else
module _ {A : Type 0} (done : A → Record) (seats : List A) (p : Plan) (all : length seats ≡ p.workers)
    (in_order : (k : ℕ) (d : A) → k < length seats → (done (get_or seats k d)).worker ≡ k)
    (once : (b : ℕ) → total (takes_of b) (map done seats) ≡ once_below p.blocks b) where
  numbered : Numbered 0 (map done seats)
  numbered j r less = let n = length-map_is done seats in
      let s : A = some_item seats (omega arith) in
      let same = ap (λ (q : Record). q.worker) (get_or-map done seats j s r (omega arith)) in
      omega (arith, in_order j s (omega arith))

  module _ (owners : List ℕ) (o : ℕ → ℕ) (count : length owners ≡ p.blocks)
      (owns : (b : ℕ) → b < length owners → get_or owners b 0 ≡ owner_after b (map done seats) (o b)) where
    within : (worker : ℕ) (s : A) → worker < length seats → (b : ℕ) → b < length owners
        → occurrences b (done (get_or seats worker s)).taken ≡ bit (ltb b (length owners) && eqb (get_or owners b 0) worker)
    within worker s lt b less = let n = length-map_is done seats in
        let one_there = once_within p.blocks b (omega arith) in
        let there = once b in
        let taker = taker_owns b (o b) 0 (map done seats) numbered (omega arith) worker (done s) (omega arith) in
        let same = ap (λ (q : Record). occurrences b q.taken) (get_or-map done seats worker s (done s) lt) in
        let z : 0 + worker ≡ worker = omega arith in
        sym same ∙ taker ∙ ap (λ m. bit (eqb (owner_after b (map done seats) (o b)) m)) z
        ∙ ap (λ m. bit (eqb m worker)) (sym (owns b less))
        ∙ sym (is_below b (length owners) (get_or owners b 0) worker less)

    past : (worker : ℕ) (s : A) → worker < length seats → (b : ℕ) → length owners ≤ b
        → occurrences b (done (get_or seats worker s)).taken ≡ bit (ltb b (length owners) && eqb (get_or owners b 0) worker)
    past worker s lt b more = let n = length-map_is done seats in
        let none_there = once_past p.blocks b (omega arith) in
        let there = once b in
        let few = at_most_or (takes_of b) (map done seats) worker (done s) (omega arith) in
        let same = ap (λ (q : Record). occurrences b q.taken) (get_or-map done seats worker s (done s) lt) in
        let z : occurrences b (done (get_or seats worker s)).taken ≡ 0 = omega arith in z
        ∙ sym (not_below b (length owners) (get_or owners b 0) worker more)

    pub legal : IsLegal p owners (map (λ s. (done s).taken) seats)
    legal = record {
      blocks = count;
      workers = length-map_is (λ s. (done s).taken) seats ∙ all;
      owned = λ b lt. let one_there = once_within p.blocks b lt in
          let there = once b in
          let n = length-map_is done seats in
          let e = owns b (omega arith) in omega (arith, owner_below b (o b) 0 (map done seats) numbered (omega arith));
      shares = λ worker lt b. let s : A = some_item seats (omega arith) in
          let is = ap (occurrences b) (get_or-map (λ q. (done q).taken) seats worker s [] (omega arith)) in
          is ∙ dite (dec_lt b (length owners)) (λ less. within worker s (omega arith) b less)
          (λ not. past worker s (omega arith) b (omega arith));
    }

below_of : (b n : ℕ) (t : Bool) → 0 < bit (ltb b n && t) → b < n
below_of b n t h = grind (arith, nat_tests)

none_between : (k w : ℕ) → bit (leb k w && ltb w (k + 0)) ≡ 0
none_between k w = grind (arith, nat_tests)

split_bits : (k n w : ℕ) → bit (leb k w && ltb w (k + suc n)) ≡ bit (eqb w (k + 0)) + bit
    (leb (k + 1) w && ltb w (k + 1 + n))
split_bits k n w = grind (arith, nat_tests)

split_between : (k n w x : ℕ) → bit (leb k w && ltb w (k + suc n)) * x ≡ bit (eqb w (k + 0)) * x + bit
    (leb (k + 1) w && ltb w (k + 1 + n)) * x
split_between k n w x = rw (split_bits k n w)
    (mul_add (bit (eqb w (k + 0))) (bit (leb (k + 1) w && ltb w (k + 1 + n))) x)

between_all : (w n : ℕ) → w < n → bit (leb 0 w && ltb w (0 + n)) ≡ 1
between_all w n h = grind (arith, nat_tests)

-- f of each worker's list, which has each block of this worker once
sum_of_share : (owners : List ℕ) (worker : ℕ) (taken : List ℕ) (f : ℕ → ℕ) → IsShareOf owners worker taken
    → total f taken ≡ sum_below (length owners) (λ b. bit (eqb (get_or owners b 0) worker) * f b)
sum_of_share owners worker taken f share = total_by_occurrences (length owners) f taken (λ b there. let s = share b in
    below_of b (length owners) (eqb (get_or owners b 0) worker) (omega arith))
    ∙ sum_below_same (length owners) (λ b. occurrences b taken * f b) (λ b. bit (eqb (get_or owners b 0) worker) * f b)
    (λ b lt. ap (λ n. n * f b) (share b ∙ is_below b (length owners) (get_or owners b 0) worker lt))

sum_of_shares : (owners : List ℕ) (k : ℕ) (taken : List (List ℕ)) (f : ℕ → ℕ)
    → ((j : ℕ) → j < length taken → IsShareOf owners (k + j) (get_or taken j []))
    → total (total f) taken ≡ sum_below (length owners)
    (λ b. bit (leb k (get_or owners b 0) && ltb (get_or owners b 0) (k + length taken)) * f b)
sum_of_shares owners k [] f h = sym (sum_below_none (length owners) _
    (λ b lt. let z = none_between k (get_or owners b 0) in rw z (omega arith)))
sum_of_shares owners k (xs ∷ xss) f h = let first = sum_of_share owners (k + 0) xs f (h 0 (omega arith)) in
    omega (
      arith,
      sum_of_shares owners (k + 1) xss f (λ j lt. let s = h (suc j) (omega arith) in
          let e : k + suc j ≡ k + 1 + j = omega arith in subst (λ w. IsShareOf owners w (get_or xss j [])) e s),
      sum_below_add (length owners) (λ b. bit (eqb (get_or owners b 0) (k + 0)) * f b)
          (λ b. bit (leb (k + 1) (get_or owners b 0) && ltb (get_or owners b 0) (k + 1 + length xss)) * f b)
          (λ b. bit (leb k (get_or owners b 0) && ltb (get_or owners b 0) (k + suc (length xss))) * f b)
          (λ b lt. split_between k (length xss) (get_or owners b 0) (f b)),
    )

-- Over legal claims, f of each worker's blocks adds up to f of all blocks, each once
pub sum_of_claims : (p : Plan) (owners : List ℕ) (taken : List (List ℕ)) (f : ℕ → ℕ) → IsLegal p owners taken
    → total (total f) taken ≡ sum_below p.blocks f
sum_of_claims p owners taken f h = let workers = h.workers in
    let blocks = h.blocks in
    sum_of_shares owners 0 taken f (λ j lt. let e : j ≡ 0 + j = omega arith in
    subst (λ w. IsShareOf owners w (get_or taken j [])) e (h.shares j (omega arith)))
    ∙ sum_below_same (length owners) _ f (λ b lt. let o = h.owned b (omega arith) in
    let one_there : bit (leb 0 (get_or owners b 0) && ltb (get_or owners b 0) (0 + length taken))
    ≡ 1 = between_all (get_or owners b 0) (length taken) (omega arith) in rw one_there (omega arith))
    ∙ ap (λ n. sum_below n f) blocks
