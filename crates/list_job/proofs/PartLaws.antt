-- What a part stands for after one more block.
use Rattle.std.proofs.Common.{◌≡◌, ℕ, ◌+◌, ◌-◌, ◌/◌, ◌<◌, ◌≤◌, ◌==◌, ◌≢◌, List, [], ◌∷◌, ◌++◌, None, slice_index_or, sym, ap, ◌∙◌, subst, arith}
use mathlib.Core.Logic.{dite}
use native.Mathlib.Decide.{dec_lt}
use Rattle.std.proofs.lemmas.List.{map-append}
use Rattle.std.proofs.lemmas.List.Elements.{All-nil, All-cons, All-append}
use Rattle.trees.specs.TreeNumbers.{tree_of}
use Rattle.claim_table.specs.Counts.{bit, occurrences}
use Rattle.claim_table.proofs.Lists.{occurrences-append, bit_eq, bit_ne}
use Rattle.worker_pool.specs.Rounds.{blocks_of}
use Rattle.factor_table.specs.declared.table.FactorSeat.{FactorSeat}
use Rattle.table_sum.specs.Words.{IsLater}
use Rattle.table_sum.proofs.SumLaws.{edges_later}
use Rattle.sum_job.specs.Parts.{JobView, block_start, block_stop, KnowsBlock}
use Rattle.list_job.specs.declared.part.ListPart.{ListPart}
use Rattle.list_job.specs.Entries.{HasEntryOf}
use Rattle.list_job.specs.Parts.{entry_at, size_of, IsInBlocks, StandsFor}

abbrev with_pair : List (ℕ × ℕ) → ℕ → ℕ → List (ℕ × ℕ)
with_pair pairs block seen = pairs ++ (block, seen) ∷ []

-- how often a block is among the pairs and one more
count_more : (b : ℕ) (pairs : List (ℕ × ℕ)) (block seen : ℕ)
    → occurrences b (blocks_of (with_pair pairs block seen)) ≡ occurrences b (blocks_of pairs) + bit (block == b)
count_more b pairs block seen =
    ap (occurrences b) (map-append (λ (p : ℕ × ℕ). p.0) pairs ((block, seen) ∷ []))
    ∙ occurrences-append b (blocks_of pairs) (block ∷ [])
    ∙ ap (λ n. occurrences b (blocks_of pairs) + n) (let l : bit (block == b) + 0 ≡ bit (block == b) = omega arith in l)

-- the numbers of the blocks before are among those of one block more
in_before : (job : JobView) (pairs : List (ℕ × ℕ)) (block seen place : ℕ) → IsInBlocks job (blocks_of pairs) place
    → IsInBlocks job (blocks_of (with_pair pairs block seen)) place
in_before job pairs block seen place h = record {
  within = h.within;
  block = let e = count_more (place / 64) pairs block seen in let more = h.block in omega arith;
}

-- .. and so are the numbers of the new block
in_new : (job : JobView) (pairs : List (ℕ × ℕ)) (block seen place : ℕ) → place < size_of job → block ≡ place / 64
    → IsInBlocks job (blocks_of (with_pair pairs block seen)) place
in_new job pairs block seen place within same = record {
  within = within;
  block = let e = count_more (place / 64) pairs block seen in let one = bit_eq block (place / 64) same in omega arith;
}

-- a number of another block was among those before
in_other : (job : JobView) (pairs : List (ℕ × ℕ)) (block seen place : ℕ) → block ≢ place / 64
    → IsInBlocks job (blocks_of (with_pair pairs block seen)) place
    → IsInBlocks job (blocks_of pairs) place
in_other job pairs block seen place apart h = record {
  within = h.within;
  block = let e = count_more (place / 64) pairs block seen in
      let none = bit_ne block (place / 64) apart in
      let more = h.block in
      omega arith;
}

-- a seat that knows all that an older one knew knows the edges of a block still
block_later : (job : JobView) (old new : FactorSeat) (block : ℕ) → IsLater job.table old new → KnowsBlock job old block
    → KnowsBlock job new block
block_later job old new block later knows k from below index within =
    edges_later job.table old new (tree_of job.problem.shape k) index later (knows k from below index within)

-- the places of a block's numbers
outside_below : (job : JobView) (block place : ℕ) → job.first + place < block_start job block → block ≢ place / 64
outside_below job block place h e = omega arith

outside_above : (job : JobView) (block place : ℕ) → place < size_of job → block_stop job block ≤ job.first + place
    → block ≢ place / 64
outside_above job block place within h e = omega arith

inside : (job : JobView) (block place : ℕ) → block_start job block ≤ job.first + place
    → job.first + place < block_stop job block
    → (block ≡ place / 64) × (place < size_of job)
inside job block place from below = (omega arith, omega arith)

-- the entries of a block were written, each at its place, and nothing else
pub filled_more : (job : JobView) (old new : ListPart) (block seen : ℕ)
    → ((k : ℕ) → block_start job block ≤ k → k < block_stop job block
    → HasEntryOf job.problem k (entry_at new (k - job.first)))
    → ((place : ℕ) → job.first + place < block_start job block → entry_at new place ≡ entry_at old place)
    → ((place : ℕ) → block_stop job block ≤ job.first + place → entry_at new place ≡ entry_at old place)
    → IsLater job.table old.seat new.seat → KnowsBlock job new.seat block
    → (pairs : List (ℕ × ℕ)) → StandsFor job old pairs → StandsFor job new (pairs ++ (block, seen) ∷ [])
filled_more job old new block seen filled below above later edges pairs stands = record {
  filled = λ place h. dite (dec_lt (job.first + place) (block_start job block))
      (λ less. before place (below place less) (outside_below job block place less) h)
      (λ from. dite (dec_lt (job.first + place) (block_stop job block))
      (λ less. here place (omega arith) less)
      (λ past. before place (above place (omega arith)) (outside_above job block place h.within (omega arith)) h));
  empty = λ place not_in. dite (dec_lt (job.first + place) (block_start job block))
      (λ less. empty_before place (below place less) not_in)
      (λ from. dite (dec_lt (job.first + place) (block_stop job block))
      (λ less. let both = inside job block place (omega arith) less in
      absurd (not_in (in_new job pairs block seen place both.1 both.0)))
      (λ past. empty_before place (above place (omega arith)) not_in));
  edges = All-append (λ (q : ℕ × ℕ). KnowsBlock job new.seat q.0) pairs ((block, seen) ∷ [])
      (λ k d lt. block_later job old.seat new.seat (slice_index_or pairs k d).0 later (stands.edges k d lt))
      (All-cons (λ (q : ℕ × ℕ). KnowsBlock job new.seat q.0) (block, seen) [] edges
      (All-nil (λ (q : ℕ × ℕ). KnowsBlock job new.seat q.0)));
}
  where
    before : (place : ℕ) → entry_at new place ≡ entry_at old place → block ≢ place / 64
        → IsInBlocks job (blocks_of (with_pair pairs block seen)) place
        → HasEntryOf job.problem (job.first + place) (entry_at new place)
    before place same apart h =
        subst (HasEntryOf job.problem (job.first + place)) (sym same)
        (stands.filled place (in_other job pairs block seen place apart h))

    here : (place : ℕ) → block_start job block ≤ job.first + place → job.first + place < block_stop job block
        → HasEntryOf job.problem (job.first + place) (entry_at new place)
    here place from less =
        subst (λ q. HasEntryOf job.problem (job.first + place) (entry_at new q))
        (let l : job.first + place - job.first ≡ place = omega arith in l)
        (filled (job.first + place) from less)

    empty_before : (place : ℕ) → entry_at new place ≡ entry_at old place
        → ¬ IsInBlocks job (blocks_of (with_pair pairs block seen)) place
        → entry_at new place ≡ None
    empty_before place same not_in =
        same ∙ stands.empty place (λ h. not_in (in_before job pairs block seen place h))
