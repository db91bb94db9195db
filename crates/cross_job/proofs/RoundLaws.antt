-- What a round comes to, from what the pool says of it.
use Rattle.std.proofs.Common.{◌≡◌, ◌≢◌, ℕ, zero, suc, ◌+◌, ◌-◌, ◌/◌, ◌%◌, ◌^◌, ◌<◌, ◌≤◌, Bool, true, false, ◌||◌, List, [], ◌∷◌, length, map, slice_index, slice_index_or, sum_by, Option, Some, None, All, refl, sym, ap, ap₂, ◌∙◌, subst, arith}
use mathlib.Core.Logic.{dite}
use native.Mathlib.Decide.{dec_lt}
use Rattle.std.proofs.lemmas.List.{get_or-map, length-map}
use Rattle.std.proofs.lemmas.List.Elements.{All-map}
use Rattle.std.proofs.lemmas.List.Sums.{sum_by-cons}
use Rattle.factor_table.specs.declared.table.FactorSeat.{FactorSeat}
use Rattle.factor_table.specs.Seats.{IsSeatOf}
use Rattle.arithmetic.specs.Fractions.{IsResidue}
use Rattle.localisation.specs.Contribution.{partial_sum}
use Rattle.localisation.specs.Agreement.{modulus_at, integral_at, NoneBad, IsLeastBad, AreResiduesOf}
use Rattle.problem.specs.Sums.{places_of, is_bad_of}
use Rattle.problem.proofs.ProblemLaws.{modulus_above}
use Rattle.claim_table.specs.Counts.{nothing_bad}
use Rattle.claim_table.specs.Claims.{plan}
use Rattle.worker_pool.specs.Rounds as pool
use Rattle.worker_pool.specs.Rounds.{IsCleanRound, all_clean, blocks_of}
use Rattle.table_sum.specs.declared.sum.TableSum.{TableSum}
use Rattle.table_sum.specs.Sums.{problem_of, table_of}
use Rattle.sum_job.specs.declared.part.PartSum.{PartSum}
use Rattle.sum_job.specs.Parts as one
use Rattle.sum_job.specs.Parts.{JobView, StandsFor, block_count, block_start, block_stop, sum_of_blocks, least_bad_among}
use Rattle.sum_job.proofs.JobLaws.{among_none_back, among_some_back, none_of_block}
use Rattle.sum_job.proofs.Together.{together}
use Rattle.cross_job.specs.declared.part.CrossPart.{CrossPart}
use Rattle.cross_job.specs.Cross.{CrossView, view_of, job_of, is_bad_for_some, first_of_block, size_of_block, least_bad_of, AreReady, StandFor, AreSeatsOf, seats_of, HasColumn}
use Rattle.cross_job.specs.CrossParts.{parts_of, sum_at}
use Rattle.cross_job.specs.Totals.{HaveTotals}

-- ---- bad numbers
-- the block of a number
block_with : CrossView → ℕ → ℕ
block_with v j = (j - v.first) / 64

in_round : (v : CrossView) (j : ℕ) → v.first ≤ j → j < v.end → block_with v j < block_count v.first v.end
unfolding block_with
in_round v j from below = omega arith

from_start : (v : CrossView) (j : ℕ) → v.first ≤ j → j < v.end → first_of_block v (block_with v j) ≤ j
unfolding block_with
from_start v j from below = omega arith

below_stop : (v : CrossView) (j : ℕ) → v.first ≤ j → j < v.end
    → j < first_of_block v (block_with v j) + size_of_block v (block_with v j)
unfolding block_with
below_stop v j from below = omega arith

pub clean_numbers : (v : CrossView) → ((block : ℕ) → block < block_count v.first v.end → least_bad_of v block ≡ None)
    → NoneBad (is_bad_for_some v.sums) v.first v.end
clean_numbers v h j from below =
    let block = block_with v j in
    among_none_back (is_bad_for_some v.sums) (first_of_block v block) (size_of_block v block)
    (h block (in_round v j from below)) j (from_start v j from below) (below_stop v j from below)

pub least_number : (v : CrossView) (number : ℕ)
    → pool.IsLeastOfRound (least_bad_of v) (block_count v.first v.end) number → number < nothing_bad
    → IsLeastBad (is_bad_for_some v.sums) v.first v.end number
least_number v number h fits =
    let there = h.found fits in
    let block = there.0 in
    let least = among_some_back (is_bad_for_some v.sums) (first_of_block v block) (size_of_block v block) number there.2 in
    let from = least.from in
    let below = least.below in
    let inside : number < v.end = omega arith in
    record {
      from = omega arith;
      below = inside;
      is_bad = least.is_bad;
      least = λ j a b t. met j a (omega arith) b t (least_bad_of v (block_with v j)) refl;
    }
  where
    met : (j : ℕ) → v.first ≤ j → j < v.end → j < number → is_bad_for_some v.sums j ≡ true → (o : Option ℕ)
        → least_bad_of v (block_with v j) ≡ o → ⊥
    met j a inside b t None e =
        among_none_back (is_bad_for_some v.sums) (first_of_block v (block_with v j)) (size_of_block v (block_with v j)) e j
        (from_start v j a inside) (below_stop v j a inside) t
    met j a inside b t (Some k) e =
        let first =
        among_some_back (is_bad_for_some v.sums) (first_of_block v (block_with v j)) (size_of_block v (block_with v j)) k e in
        let less = h.none_less (block_with v j) k (in_round v j a inside) e in
        first.least j (from_start v j a inside) (omega arith) t

-- a number that is bad for a problem is bad for some
bad_for_some : (sums : List TableSum) (k i : ℕ) (s : TableSum) → i < length sums
    → is_bad_of (view_of (slice_index_or sums i s)) k ≡ true → is_bad_for_some sums k ≡ true
bad_for_some [] k i s lt e = absurd (omega arith)
bad_for_some (x ∷ sums) k zero s lt e = first (is_bad_of (view_of x) k) (is_bad_for_some sums k) e
  where
    first : (x y : Bool) → x ≡ true → (x || y) ≡ true
    first true y e = refl
    first false y e = cc
bad_for_some (x ∷ sums) k (suc i) s lt e =
    second (is_bad_of (view_of x) k) (is_bad_for_some sums k) (bad_for_some sums k i s (omega arith) e)
  where
    second : (x y : Bool) → y ≡ true → (x || y) ≡ true
    second true y e = refl
    second false y e = e

-- no block of one problem has a bad number
none_anywhere : (v : CrossView) → NoneBad (is_bad_for_some v.sums) v.first v.end → (i : ℕ) (s : TableSum) → i < length v.sums
    → (block : ℕ) → one.least_bad_of (job_of v (slice_index_or v.sums i s)) block ≡ None
unfolding least_bad_among
none_anywhere v h i s lt block = dite (dec_lt block (block_count v.first v.end))
    (λ inside. none_of_block job block (omega arith)
    (λ j from below bad. h j (omega arith) (omega arith) (bad_for_some v.sums j i s lt bad)))
    (λ past. ap (least_bad_among (is_bad_of job.problem) (block_start job block))
    (let l : block_stop job block - block_start job block ≡ 0 = omega arith in l))
  where
    job : JobView
    job = job_of v (slice_index_or v.sums i s)

-- ---- sums
blocks_clean : (bs : List ℕ) → blocks_of (all_clean bs) ≡ bs
blocks_clean [] = refl
blocks_clean (b ∷ bs) = ap (λ xs. b ∷ xs) (blocks_clean bs)

part_of_clean : (job : JobView) (part : PartSum) (bs : List ℕ) → ((block : ℕ) → one.least_bad_of job block ≡ None)
    → StandsFor job part (all_clean bs)
    → AreResiduesOf job.problem.moduli job.problem.integrals (sum_of_blocks job bs) part.sums
part_of_clean job part bs none stands =
    subst (λ xs. AreResiduesOf job.problem.moduli job.problem.integrals (sum_of_blocks job xs) part.sums)
    (blocks_clean bs)
    (stands.sums (record {
      seen = All-map (λ (q : ℕ × ℕ). q.1 ≡ nothing_bad) (λ b. (b, nothing_bad)) bs (λ k d lt. refl);
      none_bad = All-map (λ (q : ℕ × ℕ). one.least_bad_of job q.0 ≡ None) (λ b. (b, nothing_bad)) bs (λ k d lt. none _);
    }))

-- the part for the problem at an index
abbrev part_at : ℕ → PartSum → CrossPart → PartSum
part_at i d part = slice_index_or (parts_of part) i d

at_part : (i place : ℕ) (d : PartSum) (part : CrossPart) → i < length (parts_of part)
    → one.sum_at place (part_at i d part) ≡ sum_at i place part
at_part i place d part lt = sym (ap (λ xs. slice_index xs place) (get_or-map (λ (p : PartSum). p.sums) (parts_of part) i d [] lt))

sum_of_parts : (i place : ℕ) (d : PartSum) (parts : List CrossPart) → All (λ part. i < length (parts_of part)) parts
    → sum_by (one.sum_at place) (map (part_at i d) parts) ≡ sum_by (sum_at i place) parts
sum_of_parts i place d [] all = refl
sum_of_parts i place d (p ∷ parts) all =
    sum_by-cons (one.sum_at place) (part_at i d p) (map (part_at i d) parts)
    ∙ ap₂ (λ m n. m + n) (at_part i place d p (all 0 p (omega arith)))
    (sum_of_parts i place d parts (λ k e lt. all (suc k) e (omega arith)))
    ∙ sym (sum_by-cons (sum_at i place) p parts)

-- parts that are ready have sums for each problem ..
column_of : (v : CrossView) (parts : List PartSum) (i : ℕ) (s : TableSum) → i < length v.sums → AreReady v parts
    → HasColumn (view_of (slice_index_or v.sums i s)) i parts
column_of v [] i s lt ready = let many = ready.as_many in absurd (omega arith)
column_of v (p ∷ parts) i s lt ready =
    let many = ready.as_many in
    let inside : i < length (p ∷ parts) = omega arith in
    let there = get_or-map (λ (q : PartSum). q.sums) (p ∷ parts) i p [] inside in
    let here = (ready.each i p s lt).sums in
    record {
      within = inside;
      places = ap length there ∙ here.places;
      reduced = λ place w. subst (λ xs. slice_index xs place < modulus_at (view_of (slice_index_or v.sums i s)).moduli place) (sym there) (here.reduced place w);
    }

-- .. and seats at its table
seats_of_ready : (v : CrossView) (parts : List PartSum) → AreReady v parts → AreSeatsOf (seats_of parts) v.sums
seats_of_ready v parts ready = record {
  as_many = length-map parts (λ (p : PartSum). p.seat) ∙ ready.as_many;
  each = λ i seat s lt. seat_at parts ready i seat s lt;
}
  where
    seat_at : (ps : List PartSum) → AreReady v ps → (i : ℕ) (seat : FactorSeat) (s : TableSum) → i < length v.sums
        → IsSeatOf (slice_index_or (seats_of ps) i seat) (table_of (slice_index_or v.sums i s))
    seat_at [] h i seat s lt = let many = h.as_many in absurd (omega arith)
    seat_at (p ∷ ps) h i seat s lt =
        let many = h.as_many in
        subst (λ t. IsSeatOf t (table_of (slice_index_or v.sums i s)))
        (sym (get_or-map (λ (q : PartSum). q.seat) (p ∷ ps) i p seat (omega arith))) (h.each i p s lt).seat

pub all_seated : (v : CrossView) (parts : List CrossPart) → All (λ part. AreReady v (parts_of part)) parts
    → All (λ part. AreSeatsOf (seats_of (parts_of part)) v.sums) parts
all_seated v parts ready k d lt = seats_of_ready v (parts_of (slice_index_or parts k d)) (ready k d lt)

-- the total for a problem, an integral and a modulus
total_at : (v : CrossView) (owners : List ℕ) (parts after : List CrossPart) (c : CrossPart) (d : PartSum) → v.first < v.end
    → length after ≡ length parts → NoneBad (is_bad_for_some v.sums) v.first v.end
    → All (λ part. AreReady v (parts_of part)) after → All (λ part. StandFor v (parts_of part) []) parts
    → IsCleanRound (λ part. StandFor v (parts_of part)) (plan (block_count v.first v.end) (length parts)) owners parts after
    → (i : ℕ) (s : TableSum) → i < length v.sums
    → (place : ℕ) → place < places_of (view_of (slice_index_or v.sums i s))
    → IsResidue (modulus_at (view_of (slice_index_or v.sums i s)).moduli place)
    (partial_sum (view_of (slice_index_or v.sums i s)).weights (view_of (slice_index_or v.sums i s)).shape v.first v.end
    (integral_at (view_of (slice_index_or v.sums i s)).moduli (view_of (slice_index_or v.sums i s)).integrals place))
    (sum_by (sum_at i place) after % modulus_at (view_of (slice_index_or v.sums i s)).moduli place)
total_at v owners parts after c d order many none ready empty clean i s lt place within =
    let job = job_of v (slice_index_or v.sums i s) in
    let m = modulus_at job.problem.moduli place in
    let terms = integral_at job.problem.moduli job.problem.integrals place in
    subst (λ n. IsResidue m (partial_sum job.problem.weights job.problem.shape v.first v.end terms) (n % m))
    (sum_of_parts i place d after (λ k e less. let as_many = (ready k e less).as_many in omega arith))
    (together job place m terms (length parts) owners clean.blocks (map (part_at i d) after)
    (modulus_above job.problem (problem_of (slice_index_or v.sums i s)).rules place) (omega arith)
    (length-map after (part_at i d) ∙ many) clean.legal
    (λ worker e less.
    subst (λ q. IsResidue m (sum_of_blocks job (slice_index_or clean.blocks worker []) terms) (one.sum_at place q))
    (sym (get_or-map (part_at i d) after worker c e (omega arith)))
    ((part_of_clean job (part_at i d (slice_index_or after worker c)) (slice_index_or clean.blocks worker [])
    (none_anywhere v none i s lt)
    ((clean.grown worker c less [] (empty worker c (omega arith))).each i d s lt)).each place within)))

pub totals : (v : CrossView) (owners : List ℕ) (parts after : List CrossPart) → v.first < v.end
    → 0 < length parts → length after ≡ length parts → NoneBad (is_bad_for_some v.sums) v.first v.end
    → All (λ part. AreReady v (parts_of part)) after → All (λ part. StandFor v (parts_of part) []) parts
    → IsCleanRound (λ part. StandFor v (parts_of part)) (plan (block_count v.first v.end) (length parts)) owners parts after
    → HaveTotals v after
totals v owners parts [] order some many none ready empty clean i s lt = absurd (omega arith)
totals v owners parts (c ∷ after) order some many none ready empty clean i s lt = record {
  columns = λ k e less. column_of v (parts_of (slice_index_or (c ∷ after) k e)) i s lt (ready k e less);
  residues = first (parts_of c) (ready 0 c (omega arith)).as_many;
}
  where
    first : (ps : List PartSum) → length ps ≡ length v.sums
        → (place : ℕ) → place < places_of (view_of (slice_index_or v.sums i s))
        → IsResidue (modulus_at (view_of (slice_index_or v.sums i s)).moduli place)
        (partial_sum (view_of (slice_index_or v.sums i s)).weights (view_of (slice_index_or v.sums i s)).shape v.first v.end
        (integral_at (view_of (slice_index_or v.sums i s)).moduli (view_of (slice_index_or v.sums i s)).integrals place))
        (sum_by (sum_at i place) (c ∷ after) % modulus_at (view_of (slice_index_or v.sums i s)).moduli place)
    first [] e place within = absurd (omega arith)
    first (d ∷ ps) e place within =
        total_at v owners parts (c ∷ after) c d order many none ready empty clean i s lt place within

-- ---- from the pool's words to those of a round
pub least_of_range : (v w : CrossView) (blocks number : ℕ) → v ≡ w → blocks ≡ block_count v.first v.end
    → pool.IsLeastOfRound (least_bad_of v) blocks number → number ≢ nothing_bad → number < 2 ^ 64
    → IsLeastBad (is_bad_for_some w.sums) w.first w.end number
least_of_range v w blocks number e b h apart fits =
    subst (λ (u : CrossView). IsLeastBad (is_bad_for_some u.sums) u.first u.end number) e
    (least_number v number (subst (λ n. pool.IsLeastOfRound (least_bad_of v) n number) b h) (less number apart fits))
  where
    less : (n : ℕ) → n ≢ nothing_bad → n < 2 ^ 64 → n < nothing_bad
    less n ne lt = grind arith

pub round_is_clean : (v w : CrossView) (blocks number : ℕ) (owners : List ℕ) (parts after : List CrossPart) → v ≡ w
    → blocks ≡ block_count v.first v.end → v.first < v.end
    → 0 < length parts → length after ≡ length parts
    → pool.IsLeastOfRound (least_bad_of v) blocks number → number ≡ nothing_bad
    → All (λ part. AreReady v (parts_of part)) after → All (λ part. AreReady v (parts_of part) × StandFor v (parts_of part) []) parts
    → IsCleanRound (λ part. StandFor v (parts_of part)) (plan blocks (length parts)) owners parts after
    → NoneBad (is_bad_for_some w.sums) w.first w.end × HaveTotals w after
round_is_clean v w blocks number owners parts after e b order some many least none ready empty clean =
    let no_bad = clean_numbers v ((subst (λ n. pool.IsLeastOfRound (least_bad_of v) n number) b least).clean none) in
    subst (λ (u : CrossView). NoneBad (is_bad_for_some u.sums) u.first u.end × HaveTotals u after) e (
      no_bad,
      totals v owners parts after order some many no_bad ready (λ k d lt. (empty k d lt).1)
          (subst (λ n. IsCleanRound (λ part. StandFor v (parts_of part)) (plan n (length parts)) owners parts after) b clean),
    )
