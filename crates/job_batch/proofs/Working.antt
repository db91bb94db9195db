-- What a worker of a batch knows of the place that it was answered, and after it ran its job.
use Rattle.std.proofs.Common.{◌≡◌, ◌≢◌, ℕ, ◌+◌, ◌<◌, ◌≤◌, List, [], ◌∷◌, ◌++◌, nat_lt, length, map, set, get_or, slice_index_or, vec_capacity, All, refl, sym, ap, ap₂, ◌∙◌, subst, arith, ⊎_elim, get_or-set_same, get_or-set_other, length-set}
use Rattle.std.proofs.lemmas.Bool.{cases_eq}
use Rattle.std.proofs.lemmas.List.Elements.{All-push, All-same}
use Rattle.std.proofs.lemmas.Bool.Decides.{nat_tests}
use Rattle.lists.specs.Ranges.{below}
use Rattle.lists.proofs.Different.{length-below}
use Rattle.checkpoint.specs.States.{StateView}
use Rattle.claim_table.specs.Counts.{occurrences, bit}
use Rattle.claim_table.proofs.Lists.{bit_eq, map-one, length-map_is}
use Rattle.factor_table.specs.declared.table.FactorTable.{FactorTable}
use Rattle.factor_table.specs.Seats.{IsSeatOf}
use Rattle.sum_job.specs.declared.part.PartSum.{PartSum}
use Rattle.job_batch.specs.declared.rule.Hand.{Hand}
use Rattle.job_batch.specs.declared.job.EndedJob.{EndedJob}
use Rattle.job_batch.specs.declared.worker.BatchWorker.{BatchWorker}
use Rattle.job_batch.specs.Batch.{Answered}
use Rattle.job_batch.specs.Ends.{IsJobEnd}
use Rattle.job_batch.specs.Workers.{seat_hand, AreJobs, IsAtWork, IsAtWorkWith, IsAnswered}
use Rattle.job_batch.proofs.LoneRuns.{occurrences-below}

pub is_place : (states : List StateView) (tables : List FactorTable) (w : BatchWorker) (place : ℕ)
    → IsAnswered states tables w place → place < length states
is_place states tables w place h =
    let here = bit_eq place place refl in
    let there = h.seat.pushed place (omega arith) in
    let among = ap (occurrences place) h.at_work.pushed ∙ occurrences-below place (length states) in
    known place (length states) (omega arith)
  where
    known : (b n : ℕ) → 0 < bit (nat_lt b n) → b < n
    known b n some = grind (arith, nat_tests)

pub has_room : (states : List StateView) (tables : List FactorTable) (w : BatchWorker) (place : ℕ)
    → IsAnswered states tables w place → length w.ended.items < vec_capacity w.ended
has_room states tables w place h =
    let left = h.seat.left in
    let many = ap length h.at_work.answers ∙ length-map_is (λ (job : EndedJob). job.place) w.ended.items in
    let all = ap length h.at_work.pushed ∙ length-below (length states) in
    let room = h.at_work.room in
    omega arith

pub seats_set : (tables : List FactorTable) (parts : List PartSum) (n i : ℕ) (new : PartSum) → length parts ≡ n → i < n
    → ((k : ℕ) (p : PartSum) (t : FactorTable) → k < n → IsSeatOf (slice_index_or parts k p).seat (slice_index_or tables k t))
    → ((t : FactorTable) → IsSeatOf new.seat (slice_index_or tables i t))
    → (k : ℕ) (p : PartSum) (t : FactorTable) → k < n → IsSeatOf (slice_index_or (set parts i new) k p).seat (slice_index_or tables k t)
seats_set tables parts n i new long within all here k p t lt =
    ⊎_elim
    (λ same. subst (λ j. IsSeatOf (get_or (set parts i new) j p).seat (get_or tables j t)) same
    (subst (λ (q : PartSum). IsSeatOf q.seat (get_or tables i t)) (sym (get_or-set_same parts i new p (omega arith))) (here t)))
    (λ other. let ne : k ≢ i = λ e. other (sym e) in
    subst (λ (q : PartSum). IsSeatOf q.seat (get_or tables k t)) (sym (get_or-set_other parts i k new p ne)) (all k p t lt))
    (cases_eq i k)

-- a worker that ran the job of the place that it was answered is at work again
pub noted : (states : List StateView) (tables : List FactorTable) (w after : BatchWorker) (place : ℕ) (job : EndedJob) (part : PartSum)
    → IsAnswered states tables w place
    → ((s : StateView) → IsJobEnd (slice_index_or states place s) job.bad job.sums) → job.place ≡ place
    → ((t : FactorTable) → IsSeatOf part.seat (slice_index_or tables place t))
    → after.seat ≡ w.seat → after.ended.items ≡ w.ended.items ++ job ∷ []
    → vec_capacity w.ended ≤ vec_capacity after.ended → after.parts.items ≡ set w.parts.items place part
    → IsAtWorkWith states tables (seat_hand w.seat) after
noted states tables w after place job part h end is seat same items room parts =
    let inside = is_place states tables w place h in
    let hand_is = h.seat.hand_is in
    let before = h.at_work in
    let seats = ap (λ (v : Hand). v.seats) hand_is in
    let seated = before.seated in
    record {
      seated = omega arith;
      pushed = ap (λ (v : Hand). v.pushed) hand_is ∙ before.pushed;
      answers = ap (λ (v : Hand). v.answers) hand_is
          ∙ ap₂ (λ xs n. xs ++ n ∷ []) before.answers (sym is)
          ∙ sym (map-one (λ (j : EndedJob). j.place) w.ended.items job)
          ∙ ap (λ js. map (λ (j : EndedJob). j.place) js) (sym items);
      ends = All-same (λ (j : EndedJob). (s : StateView) → IsJobEnd (slice_index_or states j.place s) j.bad j.sums) after.ended.items _ items
          (All-push (λ (j : EndedJob). (s : StateView) → IsJobEnd (slice_index_or states j.place s) j.bad j.sums) w.ended.items job before.ends
          (λ s. subst (λ n. IsJobEnd (slice_index_or states n s) job.bad job.sums) (sym is) (end s)));
      places = All-same (λ (j : EndedJob). j.place < length states) after.ended.items _ items
          (All-push (λ (j : EndedJob). j.place < length states) w.ended.items job before.places (omega arith));
      room = (let r = before.room in omega arith);
      parts = ap length parts ∙ length-set w.parts.items place part ∙ before.parts;
      seats = subst
          (λ ps. (k : ℕ) (p : PartSum) (t : FactorTable) → k < length states → IsSeatOf (slice_index_or ps k p).seat (slice_index_or tables k t))
          (sym parts) (seats_set tables w.parts.items (length states) place part before.parts inside before.seats seat);
    }
