-- What a part stands for, before any block and after one more.
use Rattle.std.proofs.Common.{◌≡◌, ℕ, ◌-◌, ◌<◌, ◌≤◌, List, [], ◌∷◌, ◌++◌, length, map, min, replicate, slice_index, slice_index_or, Option, Some, None, false, leb, refl, sym, ap, ◌∙◌, subst, arith, pos}
use Rattle.std.specs.Option.{option_to_list}
use Rattle.std.specs.List.{cons_option}
use Rattle.std.proofs.lemmas.Bool.Decides.{nat_tests}
use Rattle.std.proofs.lemmas.List.{length-replicate, map-append}
use Rattle.std.proofs.lemmas.List.Elements.{filter_map-append, All-pop, All-nil, All-cons, All-append}
use Rattle.arithmetic.specs.Fractions.{fraction, plus, sum_of_fractions, IsResidue}
use Rattle.arithmetic.proofs.FractionSums.{plus-zero, sum_of_fractions-append}
use Rattle.arithmetic.proofs.Residues.{IsResidue-plus, residue_of_zero}
use Rattle.classes.specs.declared.class.Term.{Term}
use Rattle.localisation.specs.Agreement.{modulus_at, integral_at, AreResiduesOf}
use Rattle.problem.specs.Sums.{is_bad_of}
use Rattle.problem.proofs.ProblemLaws.{modulus_above}
use Rattle.claim_table.specs.Counts.{nothing_bad, least_of}
use Rattle.claim_table.proofs.Lists.{least_most}
use Rattle.trees.specs.TreeNumbers.{tree_of}
use Rattle.factor_table.specs.declared.table.FactorSeat.{FactorSeat}
use Rattle.factor_table.specs.Seats.{IsSeatOf}
use Rattle.table_sum.specs.Words.{IsLater}
use Rattle.table_sum.proofs.Later.{later_same}
use Rattle.table_sum.proofs.SumLaws.{edges_later}
use Rattle.worker_pool.specs.Rounds.{at_most, answers, blocks_of}
use Rattle.sum_job.specs.declared.part.PartSum.{PartSum}
use Rattle.sum_job.specs.Parts.{JobView, KeepsJob, least_bad_of, block_start, block_stop, block_sum, sum_of_blocks, IsReady, IsWorked, KnowsBlock, AreClean, StandsFor, least_with, IsAdded}
use Rattle.sum_job.proofs.JobLaws.{among_some_back}
use Rattle.sum_job.proofs.AddedResidues.{at_most_64}
use Rattle.lists.proofs.Padding.{zeros}

-- ---- no block
pub empty_part : (job : JobView) (part : PartSum) → KeepsJob job → IsSeatOf part.seat job.table
    → part.sums ≡ replicate 64 0 → part.least ≡ nothing_bad
    → IsReady job part × StandsFor job part []
empty_part job part rules seat sums least =
    let long : length part.sums ≡ 64 = ap length sums ∙ length-replicate {A = ℕ} 64 0 in
    let zero_at : (place : ℕ) → slice_index part.sums place ≡ 0 =
    λ place. ap (λ xs. slice_index xs place) sums ∙ zeros 64 place in
    let most = at_most_64 job.problem rules in (
      record {
        sums = record {
          places = long;
          reduced = λ place within. let above = modulus_above job.problem rules place in let z = zero_at place in omega arith;
        };
        seat = seat;
      },
      record {
        sums = λ clean. record {
          as_many = omega arith;
          each = λ place within. let m = modulus_at job.problem.moduli place in
              subst (λ x. IsResidue m (fraction (pos 0) (pos 1)) x) (sym (zero_at place)) (residue_of_zero m (modulus_above job.problem rules place));
        };
        least = least;
        edges = All-nil (λ (q : ℕ × ℕ). IsWorked job q → KnowsBlock job part.seat q.0);
      },
    )

-- ---- one more block
not_leb : (k x : ℕ) → x < k → leb k x ≡ false
not_leb k x lt = grind (arith, nat_tests)

least-append : (xs ys : List ℕ) → least_of (xs ++ ys) ≡ min (least_of xs) (least_of ys)
least-append [] ys = let most = least_most ys in omega arith
least-append (x ∷ xs) ys = let e = least-append xs ys in omega arith

answers-more : (g : ℕ → Option ℕ) (pairs : List (ℕ × ℕ)) (block seen : ℕ)
    → least_of (answers g (pairs ++ (block, seen) ∷ []))
    ≡ min (least_of (answers g pairs)) (least_of (option_to_list (at_most seen (g block))))
answers-more g pairs block seen =
    ap least_of (filter_map-append (λ p. at_most p.1 (g p.0)) pairs ((block, seen) ∷ []))
    ∙ least-append (answers g pairs) (answers g ((block, seen) ∷ []))
    ∙ ap (min (least_of (answers g pairs))) (one (at_most seen (g block)))
  where
    one : (o : Option ℕ) → least_of (cons_option o []) ≡ least_of (option_to_list o)
    one None = refl
    one (Some x) = refl

abbrev with_pair : List (ℕ × ℕ) → ℕ → ℕ → List (ℕ × ℕ)
with_pair pairs block seen = pairs ++ (block, seen) ∷ []

abbrev AreSums : JobView → List (ℕ × ℕ) → PartSum → Type 0
AreSums job pairs part =
    AreResiduesOf job.problem.moduli job.problem.integrals (sum_of_blocks job (blocks_of pairs)) part.sums

-- a seat that knows all that an older one knew knows the edges of a block still
block_later : (job : JobView) (old new : FactorSeat) (block : ℕ) → IsLater job.table old new → KnowsBlock job old block
    → KnowsBlock job new block
block_later job old new block later knows k from below index within =
    edges_later job.table old new (tree_of job.problem.shape k) index later (knows k from below index within)

part_more : (job : JobView) (old new : PartSum) (pairs : List (ℕ × ℕ)) (block seen : ℕ)
    → (AreClean job pairs → seen ≡ nothing_bad → least_bad_of job block ≡ None → AreSums job pairs old → AreSums job (with_pair pairs block seen) new)
    → new.least ≡ min old.least (least_of (option_to_list (at_most seen (least_bad_of job block))))
    → IsLater job.table old.seat new.seat → (IsWorked job (block, seen) → KnowsBlock job new.seat block)
    → StandsFor job old pairs → StandsFor job new (with_pair pairs block seen)
part_more job old new pairs block seen sums least later edges stands = record {
  sums = λ clean.
      let all_seen =
      All-pop (λ (p : ℕ × ℕ). p.1 ≡ nothing_bad) (with_pair pairs block seen) pairs
      (Some (block, seen)) refl clean.seen in
      let none =
      All-pop (λ (p : ℕ × ℕ). least_bad_of job p.0 ≡ None) (with_pair pairs block seen) pairs
      (Some (block, seen)) refl clean.none_bad in
      let before : AreClean job pairs = record { seen = all_seen.0; none_bad = none.0 } in
      sums before all_seen.1 none.1 (stands.sums before);
  least = least ∙ ap (λ n. min n (least_of (option_to_list (at_most seen (least_bad_of job block))))) stands.least
      ∙ sym (answers-more (least_bad_of job) pairs block seen);
  edges = All-append (λ (q : ℕ × ℕ). IsWorked job q → KnowsBlock job new.seat q.0) pairs ((block, seen) ∷ [])
      (λ k d lt worked. block_later job old.seat new.seat (slice_index_or pairs k d).0 later (stands.edges k d lt worked))
      (All-cons (λ (q : ℕ × ℕ). IsWorked job q → KnowsBlock job new.seat q.0) (block, seen) [] edges
      (All-nil (λ (q : ℕ × ℕ). IsWorked job q → KnowsBlock job new.seat q.0)));
}

least_fits : (job : JobView) (part : PartSum) (pairs : List (ℕ × ℕ)) → StandsFor job part pairs
    → part.least ≤ nothing_bad
least_fits job part pairs stands =
    let e = stands.least in
    let most = least_most (answers (least_bad_of job) pairs) in
    subst (λ n. n ≤ nothing_bad) (sym e) most

-- what lies above the number that was seen is no answer
at_most-above : (seen : ℕ) (o : Option ℕ) → ((k : ℕ) → o ≡ Some k → seen < k) → at_most seen o ≡ None
at_most-above seen None h = refl
at_most-above seen (Some k) h = let above = h k refl in let e : leb k seen ≡ false = not_leb k seen above in rw e

pub answer_above : (job : JobView) (block seen : ℕ) → seen < block_start job block
    → at_most seen (least_bad_of job block) ≡ None
answer_above job block seen above =
    at_most-above seen (least_bad_of job block)
    (λ k e. let least = among_some_back (is_bad_of job.problem) (block_start job block) (block_stop job block - block_start job block) k e in
    let from = least.from in
    omega arith)

-- a block that was passed over
pub passed_over : (job : JobView) (part : PartSum) (block seen : ℕ) → IsSeatOf part.seat job.table → seen < nothing_bad
    → seen < block_start job block
    → (pairs : List (ℕ × ℕ)) → StandsFor job part pairs → StandsFor job part (with_pair pairs block seen)
passed_over job part block seen seat fits above pairs stands =
    part_more job part part pairs block seen (λ clean e none sums. absurd (omega arith))
    (let most = least_fits job part pairs stands in
    let same : part.least ≡ min part.least nothing_bad = omega arith in
    same ∙ ap (λ o. min part.least (least_of (option_to_list o))) (sym (answer_above job block seen above)))
    (later_same job.table part.seat seat)
    (λ worked. absurd (omega arith))
    stands

-- a block with a bad number
pub noted : (job : JobView) (old new : PartSum) (block seen least : ℕ) → least_bad_of job block ≡ Some least
    → new.least ≡ least_with old.least (at_most seen (Some least))
    → IsLater job.table old.seat new.seat → KnowsBlock job new.seat block
    → (pairs : List (ℕ × ℕ)) → StandsFor job old pairs → StandsFor job new (with_pair pairs block seen)
noted job old new block seen least bad is later edges pairs stands =
    part_more job old new pairs block seen (λ clean e none sums. absurd (apart (sym none ∙ bad)))
    (is ∙ with_answer (at_most seen (Some least)) ∙ ap (λ o. min old.least (least_of (option_to_list (at_most seen o)))) (sym bad))
    later
    (λ worked. edges)
    stands
  where
    apart : {x : ℕ} → None ≡ Some x → ⊥
    apart p = cc

    fits : old.least ≤ nothing_bad
    fits = least_fits job old pairs stands

    with_answer : (o : Option ℕ) → least_with old.least o ≡ min old.least (least_of (option_to_list o))
    with_answer None = let most = fits in omega arith
    with_answer (Some x) = let most = fits in omega arith

-- a block whose sum was added
pub added : (job : JobView) (old new : PartSum) (block seen : ℕ) → KeepsJob job → length new.sums ≡ 64
    → least_bad_of job block ≡ None
    → IsAdded job.problem (block_start job block) (block_stop job block) old new
    → IsLater job.table old.seat new.seat → KnowsBlock job new.seat block
    → (pairs : List (ℕ × ℕ)) → StandsFor job old pairs → StandsFor job new (with_pair pairs block seen)
added job old new block seen rules long clean is later edges pairs stands =
    part_more job old new pairs block seen
    (λ before e none sums. record {
      as_many = let most = at_most_64 job.problem rules in omega arith;
      each = λ place within.
          let m = modulus_at job.problem.moduli place in
          let terms = integral_at job.problem.moduli job.problem.integrals place in
          let grown = is.sums place within in
          subst (λ f. IsResidue m f (slice_index new.sums place)) (sym (sum_more terms))
          (subst (λ x. IsResidue m (plus (sum_of_blocks job (blocks_of pairs) terms) (block_sum job terms block)) x) (sym grown.sum)
          (IsResidue-plus m (sum_of_blocks job (blocks_of pairs) terms) (block_sum job terms block) (slice_index old.sums place) grown.value
          (modulus_above job.problem rules place) (sums.each place within) grown.is_residue));
    })
    (let most = least_fits job old pairs stands in
    let same : old.least ≡ min old.least nothing_bad = omega arith in
    is.least ∙ same ∙ ap (λ o. min old.least (least_of (option_to_list (at_most seen o)))) (sym clean))
    later
    (λ worked. edges)
    stands
  where
    sum_more : (terms : List Term) → sum_of_blocks job (blocks_of (with_pair pairs block seen)) terms
        ≡ plus (sum_of_blocks job (blocks_of pairs) terms) (block_sum job terms block)
    sum_more terms =
        ap (λ bs. sum_of_fractions (map (block_sum job terms) bs))
        (map-append (λ (p : ℕ × ℕ). p.0) pairs ((block, seen) ∷ []))
        ∙ ap sum_of_fractions (map-append (block_sum job terms) (blocks_of pairs) (block ∷ []))
        ∙ sum_of_fractions-append (map (block_sum job terms) (blocks_of pairs)) (block_sum job terms block ∷ [])
        ∙ ap (plus (sum_of_blocks job (blocks_of pairs) terms)) (plus-zero (block_sum job terms block))

-- what holds at two numbers holds at those that are equal to them
pub at_same : (P : ℕ → ℕ → Type 0) (a b x y : ℕ) → a ≡ x → b ≡ y → P a b → P x y
at_same P a b x y e f h = subst (P x) f (subst (λ n. P n b) e h)
