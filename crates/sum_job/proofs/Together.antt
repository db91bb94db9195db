-- The sums of all parts of a round without a bad number are those of its numbers.
use Rattle.std.proofs.Common.{◌≡◌, ℕ, zero, suc, ◌+◌, ◌*◌, ◌%◌, ◌<◌, ◌≤◌, ◌==◌, List, [], ◌∷◌, ◌++◌, length, map, min, refl, sym, ap, ap₂, ◌∙◌, subst, arith, IsPermutation}
use Rattle.std.specs.List.{concat}
use Rattle.std.specs.Prelude.{sum_by, slice_index_or}
use Rattle.std.proofs.lemmas.List.{map-append}
use Rattle.std.proofs.lemmas.List.Sums.{sum-map}
use Rattle.std.proofs.lemmas.List.Sorted.{IsPermutation-refl, IsPermutation-sym, IsPermutation-trans, IsPermutation-cons, IsPermutation-middle}
use Rattle.arithmetic.specs.Fractions.{Fraction, plus, sum_of_fractions, IsResidue}
use Rattle.arithmetic.proofs.FractionSums.{plus-zero, sum_of_fractions-append}
use Rattle.arithmetic.proofs.Residues.{AreResidues, IsResidue-sum}
use Rattle.arithmetic.proofs.Residues.AreResidues.{none, one}
use Rattle.classes.specs.declared.class.Term.{Term}
use Rattle.localisation.specs.Contribution.{partial_sum}
use Rattle.localisation.proofs.PartialSums.{partial_sum-cut, partial_sum-none}
use Rattle.claim_table.specs.Counts.{bit, occurrences, total, sum_below}
use Rattle.claim_table.specs.Claims.{plan, IsLegal}
use Rattle.claim_table.proofs.Lists.{occurrences-append, bit_eq, bit_ne}
use mathlib.Core.Logic.{dite}
use native.Mathlib.Decide.{ℕ_discrete}
use Rattle.claim_table.proofs.Legal.{sum_of_claims}
use Rattle.sum_job.specs.declared.part.PartSum.{PartSum}
use Rattle.sum_job.specs.Parts.{JobView, block_count, block_start, block_stop, block_sum, sum_of_blocks, sum_at}
use Rattle.sum_job.proofs.Orders.{sum_of_blocks-order}

-- ---- lists in which each number stands as often
record IsSplit (x : ℕ) (ys : List ℕ) : Type 0 where
  before : List ℕ
  after : List ℕ
  is : ys ≡ before ++ x ∷ after

split_at : (x : ℕ) (ys : List ℕ) → 0 < occurrences x ys → IsSplit x ys
split_at x [] h = absurd (omega arith)
split_at x (y ∷ ys) h = dite (ℕ_discrete y x)
    (λ here. record { before = []; after = ys; is = ap (λ z. z ∷ ys) here })
    (λ apart. let none_here = bit_ne y x apart in
    let rest = split_at x ys (omega arith) in
    record { before = y ∷ rest.before; after = rest.after; is = ap (λ zs. y ∷ zs) rest.is })

pub same_counts : (xs ys : List ℕ) → ((b : ℕ) → occurrences b xs ≡ occurrences b ys) → IsPermutation xs ys
same_counts [] [] h = IsPermutation-refl []
same_counts [] (y ∷ ys) h = let one_here = bit_eq y y refl in let e = h y in absurd (omega arith)
same_counts (x ∷ xs) ys h =
    let one_here = bit_eq x x refl in
    let at_x = h x in
    let s = split_at x ys (omega arith) in
    let rest : IsPermutation xs (s.before ++ s.after) =
    same_counts xs (s.before ++ s.after)
    (λ b. let whole = h b in
    let parts = ap (occurrences b) s.is in
    let left = occurrences-append b s.before (x ∷ s.after) in
    let right = occurrences-append b s.before s.after in
    omega arith) in
    subst (IsPermutation (x ∷ xs)) (sym s.is)
    (IsPermutation-trans _ _ _ (IsPermutation-cons x _ _ rest) (IsPermutation-sym _ _ (IsPermutation-middle s.before x s.after)))

-- the numbers below n
up_to : ℕ → List ℕ
up_to zero = []
up_to (suc n) = up_to n ++ n ∷ []

is_number : ℕ → ℕ → ℕ
is_number b y = bit (y == b)

occurrences_total : (b : ℕ) (xs : List ℕ) → occurrences b xs ≡ total (is_number b) xs
unfolding is_number
occurrences_total b [] = refl
occurrences_total b (x ∷ xs) = ap (λ n. bit (x == b) + n) (occurrences_total b xs)

occurrences_concat : (b : ℕ) (xss : List (List ℕ)) → occurrences b (concat xss) ≡ total (total (is_number b)) xss
occurrences_concat b [] = refl
occurrences_concat b (xs ∷ xss) = occurrences-append b xs (concat xss) ∙ ap₂ (λ m n. m + n) (occurrences_total b xs) (occurrences_concat b xss)

occurrences_up_to : (b n : ℕ) → occurrences b (up_to n) ≡ sum_below n (is_number b)
unfolding up_to is_number
occurrences_up_to b zero = refl
occurrences_up_to b (suc n) = let more = occurrences-append b (up_to n) (n ∷ []) in let before = occurrences_up_to b n in omega arith

-- legal claims have each block once
claims_are_blocks : (blocks workers : ℕ) (owners : List ℕ) (taken : List (List ℕ))
    → IsLegal (plan blocks workers) owners taken
    → IsPermutation (up_to blocks) (concat taken)
claims_are_blocks blocks workers owners taken legal =
    same_counts (up_to blocks) (concat taken)
    (λ b. occurrences_up_to b blocks ∙ sym (sum_of_claims (plan blocks workers) owners taken (is_number b) legal) ∙ sym (occurrences_concat b taken))

-- ---- sums over blocks
sum_of_concat : (job : JobView) (terms : List Term) (xss : List (List ℕ))
    → sum_of_fractions (map (λ xs. sum_of_blocks job xs terms) xss) ≡ sum_of_blocks job (concat xss) terms
sum_of_concat job terms [] = refl
sum_of_concat job terms (xs ∷ xss) =
    ap (plus (sum_of_blocks job xs terms)) (sum_of_concat job terms xss)
    ∙ sym (ap sum_of_fractions (map-append (block_sum job terms) xs (concat xss))
    ∙ sum_of_fractions-append (map (block_sum job terms) xs) (map (block_sum job terms) (concat xss)))

sum_up_to : (job : JobView) (terms : List Term) (k : ℕ) → job.first ≤ job.end → k ≤ block_count job.first job.end
    → sum_of_blocks job (up_to k) terms
    ≡ partial_sum job.problem.weights job.problem.shape job.first (min (job.first + 64 * k) job.end) terms
unfolding up_to
sum_up_to job terms zero order most =
    sym
    (ap (λ n. partial_sum job.problem.weights job.problem.shape job.first n terms) (let l : min (job.first + 64 * 0) job.end ≡ job.first = omega arith in l)
    ∙ partial_sum-none job.problem.weights job.problem.shape job.first terms)
sum_up_to job terms (suc k) order most =
    let p = job.problem in
    let here = block_start job k in
    let stop = block_stop job k in
    let inside : here < job.end = omega arith in
    ap sum_of_fractions (map-append (block_sum job terms) (up_to k) (k ∷ []))
    ∙ sum_of_fractions-append (map (block_sum job terms) (up_to k)) (block_sum job terms k ∷ [])
    ∙ ap₂ plus (sum_up_to job terms k order (omega arith)) (plus-zero (block_sum job terms k))
    ∙ ap (λ n. plus (partial_sum p.weights p.shape job.first n terms) (block_sum job terms k))
    (let l : min (job.first + 64 * k) job.end ≡ here = omega arith in l)
    ∙ sym (partial_sum-cut p.weights p.shape job.first here stop terms (omega arith) (omega arith))
    ∙ ap (λ n. partial_sum p.weights p.shape job.first n terms)
    (let l : stop ≡ min (job.first + 64 * suc k) job.end = omega arith in l)

-- all blocks together
sum_of_all : (job : JobView) (terms : List Term) (workers : ℕ) (owners : List ℕ) (taken : List (List ℕ))
    → job.first ≤ job.end
    → IsLegal (plan (block_count job.first job.end) workers) owners taken
    → sum_of_fractions (map (λ xs. sum_of_blocks job xs terms) taken)
    ≡ partial_sum job.problem.weights job.problem.shape job.first job.end terms
sum_of_all job terms workers owners taken order legal =
    let n = block_count job.first job.end in
    sum_of_concat job terms taken
    ∙ sum_of_blocks-order job (up_to n) (concat taken) terms (claims_are_blocks n workers owners taken legal)
    ∙ sum_up_to job terms n order (omega arith)
    ∙ ap (λ e. partial_sum job.problem.weights job.problem.shape job.first e terms)
    (let l : min (job.first + 64 * n) job.end ≡ job.end = omega arith in l)

-- ---- the residues of the parts
residues_of_parts : (m : ℕ) (place : ℕ) (f : List ℕ → Fraction) (taken : List (List ℕ)) (parts : List PartSum)
    → length taken ≡ length parts
    → ((worker : ℕ) (d : PartSum) → worker < length parts → IsResidue m (f (slice_index_or taken worker [])) (sum_at place (slice_index_or parts worker d)))
    → AreResidues m (map f taken) (map (sum_at place) parts)
residues_of_parts m place f [] [] e h = none
residues_of_parts m place f [] (p ∷ parts) e h = absurd (omega arith)
residues_of_parts m place f (xs ∷ taken) [] e h = absurd (omega arith)
residues_of_parts m place f (xs ∷ taken) (p ∷ parts) e h =
    one (h 0 p (omega arith))
    (residues_of_parts m place f taken parts (omega arith) (λ worker d lt. h (suc worker) d (omega arith)))

-- The parts of all workers, each of which has the residue of the sum over its worker's blocks, add up to the residue of
-- the partial sum over the numbers of the job.
pub together : (job : JobView) (place m : ℕ) (terms : List Term) (workers : ℕ) (owners : List ℕ) (taken : List (List ℕ)) (parts : List PartSum)
    → 1 < m → job.first ≤ job.end → length parts ≡ workers
    → IsLegal (plan (block_count job.first job.end) workers) owners taken
    → ((worker : ℕ) (d : PartSum) → worker < workers
    → IsResidue m (sum_of_blocks job (slice_index_or taken worker []) terms) (sum_at place (slice_index_or parts worker d)))
    → IsResidue m (partial_sum job.problem.weights job.problem.shape job.first job.end terms) (sum_by (sum_at place) parts % m)
together job place m terms workers owners taken parts above order many legal each =
    let as_many = legal.workers in
    subst (λ f. IsResidue m f (sum_by (sum_at place) parts % m)) (sum_of_all job terms workers owners taken order legal)
    (subst (λ n. IsResidue m (sum_of_fractions (map (λ xs. sum_of_blocks job xs terms) taken)) (n % m)) (sum-map (sum_at place) parts)
    (IsResidue-sum m (map (λ xs. sum_of_blocks job xs terms) taken) (map (sum_at place) parts) above
    (residues_of_parts m place (λ xs. sum_of_blocks job xs terms) taken parts (omega arith) (λ worker d lt. each worker d (omega arith)))))
