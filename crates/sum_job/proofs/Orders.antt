-- The order in which a part's blocks were worked does not matter.
use Rattle.std.proofs.Common.{◌≡◌, ℕ, ◌≤◌, List, [], ◌∷◌, map, min, slice_index, Option, Some, None, All, sym, subst, arith, IsPermutation}
use Rattle.std.proofs.lemmas.List.Sorted.{IsPermutation-map, IsPermutation-sym, All-permutation}
use Rattle.std.proofs.lemmas.List.Elements.{All-nil, All-cons, All-head, All-tail}
use Rattle.std.specs.List.{cons_option}
use Rattle.std.specs.Option.{option_to_list}
use Rattle.claim_table.proofs.Lists.{least_most}
use Rattle.arithmetic.specs.Fractions.{IsResidue}
use Rattle.arithmetic.proofs.FractionOrders.{sum_of_fractions-IsPermutation}
use Rattle.classes.specs.declared.class.Term.{Term}
use Rattle.localisation.specs.Agreement.{modulus_at, integral_at}
use Rattle.claim_table.specs.Counts.{nothing_bad, least_of}
use Rattle.worker_pool.specs.Rounds.{at_most, answers, blocks_of}
use Rattle.sum_job.specs.declared.part.PartSum.{PartSum}
use Rattle.sum_job.specs.Parts.{JobView, least_bad_of, block_sum, sum_of_blocks, IsWorked, KnowsBlock, StandsFor}

-- the sums over the same blocks in another order
pub sum_of_blocks-order : (job : JobView) (xs ys : List ℕ) (terms : List Term) → IsPermutation xs ys
    → sum_of_blocks job ys terms ≡ sum_of_blocks job xs terms
sum_of_blocks-order job xs ys terms p =
    sum_of_fractions-IsPermutation (map (block_sum job terms) xs) (map (block_sum job terms) ys)
    (IsPermutation-map (block_sum job terms) xs ys p)

-- the least number that was answered
answer_of : (ℕ → Option ℕ) → ℕ × ℕ → ℕ
answer_of g p = least_of (option_to_list (at_most p.1 (g p.0)))

cons_least : (o : Option ℕ) (xs : List ℕ)
    → least_of (cons_option o xs) ≡ min (least_of (option_to_list o)) (least_of xs)
cons_least None xs = let most = least_most xs in omega arith
cons_least (Some x) xs = let most = least_most xs in omega arith

least_of_pairs : (g : ℕ → Option ℕ) (p : ℕ × ℕ) (pairs : List (ℕ × ℕ))
    → least_of (answers g (p ∷ pairs)) ≡ min (answer_of g p) (least_of (answers g pairs))
unfolding answer_of
least_of_pairs g p pairs = cons_least (at_most p.1 (g p.0)) (answers g pairs)

least_is_below : (g : ℕ → Option ℕ) (n : ℕ) (pairs : List (ℕ × ℕ)) → n ≤ least_of (answers g pairs)
    → All (λ p. n ≤ answer_of g p) pairs
least_is_below g n [] h = All-nil (λ p. n ≤ answer_of g p)
least_is_below g n (p ∷ pairs) h =
    let e = least_of_pairs g p pairs in
    All-cons (λ q. n ≤ answer_of g q) p pairs (omega arith) (least_is_below g n pairs (omega arith))

below_is_least : (g : ℕ → Option ℕ) (n : ℕ) (pairs : List (ℕ × ℕ)) → n ≤ nothing_bad
    → All (λ p. n ≤ answer_of g p) pairs → n ≤ least_of (answers g pairs)
below_is_least g n [] fits h = fits
below_is_least g n (p ∷ pairs) fits h =
    let e = least_of_pairs g p pairs in
    let first = All-head (λ q. n ≤ answer_of g q) p pairs h in
    let rest = below_is_least g n pairs fits (All-tail (λ q. n ≤ answer_of g q) p pairs h) in
    omega arith

least-order : (g : ℕ → Option ℕ) (xs ys : List (ℕ × ℕ)) → IsPermutation xs ys
    → least_of (answers g xs) ≤ least_of (answers g ys)
least-order g xs ys p =
    let n = least_of (answers g xs) in
    below_is_least g n ys (least_most (answers g xs))
    (All-permutation (λ q. n ≤ answer_of g q) xs ys p (least_is_below g n xs (omega arith)))

-- a part stands for its pairs in any order
pub any_order : (job : JobView) (part : PartSum) (xs ys : List (ℕ × ℕ)) → IsPermutation xs ys → StandsFor job part xs
    → StandsFor job part ys
any_order job part xs ys p stands =
    let back = IsPermutation-sym xs ys p in
    record {
      sums = λ clean.
          let sums = stands.sums (record {
            seen = All-permutation (λ (q : ℕ × ℕ). q.1 ≡ nothing_bad) ys xs back clean.seen;
            none_bad = All-permutation (λ (q : ℕ × ℕ). least_bad_of job q.0 ≡ None) ys xs back clean.none_bad;
          }) in
          record {
            as_many = sums.as_many;
            each = λ place within.
                subst (λ f. IsResidue (modulus_at job.problem.moduli place) f (slice_index part.sums place))
                (sym (sum_of_blocks-order job (blocks_of xs) (blocks_of ys) (integral_at job.problem.moduli job.problem.integrals place)
                (IsPermutation-map (λ (q : ℕ × ℕ). q.0) xs ys p)))
                (sums.each place within);
          };
      least = let there = least-order (least_bad_of job) xs ys p in
          let again = least-order (least_bad_of job) ys xs back in
          let is = stands.least in
          omega arith;
      edges = All-permutation (λ (q : ℕ × ℕ). IsWorked job q → KnowsBlock job part.seat q.0) xs ys p stands.edges;
    }
