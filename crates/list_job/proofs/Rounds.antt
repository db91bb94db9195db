-- After a round over empty parts each number has its entry in exactly one part.
use Rattle.std.proofs.Common.{◌≡◌, ◌≢◌, ℕ, ◌/◌, ◌<◌, ◌==◌, ◌&&◌, List, [], length, map, slice_index, slice_index_or, nat_lt, sym, ap, ◌∙◌, arith, refl}
use Rattle.std.proofs.lemmas.Bool.Decides.{nat_tests}
use Rattle.std.proofs.lemmas.List.{get_or-map, length-map}
use Rattle.claim_table.specs.Counts.{bit, occurrences}
use Rattle.worker_pool.specs.Rounds.{blocks_of}
use Rattle.sum_job.specs.Parts.{JobView, block_count}
use Rattle.list_job.specs.declared.part.ListPart.{ListPart}
use Rattle.list_job.specs.Parts.{size_of, StandsFor}
use Rattle.list_job.specs.Listings.{HasOneEntry, AreListing, AreAfterRound}

owned_once : (b n owner worker : ℕ) → b < n → owner ≡ worker → bit (nat_lt b n && owner == worker) ≡ 1
owned_once b n owner worker lt e = grind (arith, nat_tests)

owned_never : (b n owner worker : ℕ) → owner ≢ worker → bit (nat_lt b n && owner == worker) ≡ 0
owned_never b n owner worker ne = grind (arith, nat_tests)

block_within : (job : JobView) (place : ℕ) → place < size_of job → place / 64 < block_count job.first job.end
block_within job place h = omega arith

pub after_round : (job : JobView) (parts : List ListPart) → AreAfterRound job parts → AreListing job parts
after_round job parts h = record { room = λ k d lt. (h.ready k d lt).room; once = λ place within. one place within }
  where
    stands : (worker : ℕ) (d : ListPart) → worker < length h.before
        → StandsFor job (slice_index_or parts worker d) (slice_index_or h.round.pairs worker [])
    stands worker d lt = h.round.grown worker d lt [] (h.empty worker d lt)

    taken_is : (worker : ℕ) → worker < length h.before
        → slice_index_or (map blocks_of h.round.pairs) worker [] ≡ blocks_of (slice_index_or h.round.pairs worker [])
    taken_is worker lt =
        let many = h.round.legal.workers in
        let long = length-map h.round.pairs blocks_of in
        get_or-map blocks_of h.round.pairs worker [] [] (omega arith)

    counted : (worker b : ℕ) → worker < length h.before
        → occurrences b (blocks_of (slice_index_or h.round.pairs worker []))
        ≡ bit (nat_lt b (length h.owners) && slice_index h.owners b == worker)
    counted worker b lt = ap (occurrences b) (sym (taken_is worker lt)) ∙ h.round.legal.shares worker lt b

    one : (place : ℕ) → place < size_of job → HasOneEntry job parts place
    one place within =
        let b = place / 64 in
        let lt = block_within job place within in
        let owner = slice_index h.owners b in
        let fits = h.round.legal.owned b lt in
        let blocks = h.round.legal.blocks in
        let many = h.as_many in
        record {
          worker = owner;
          within = omega arith;
          entry = λ d. (stands owner d fits).filled place (record {
            within = within;
            block = let count = counted owner b fits in
                let is = owned_once b (length h.owners) owner owner (omega arith) refl in
                omega arith;
          });
          others = λ other d less apart.
              let inside : other < length h.before = omega arith in
              (stands other d inside).empty place (λ has.
              let count = counted other b inside in
              let none = owned_never b (length h.owners) owner other (λ e. apart (sym e)) in
              let some = has.block in
              omega arith);
        }
