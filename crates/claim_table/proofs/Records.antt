-- What the rule of each representation says of its records and of the bad word, written as sums over views: the two
-- forms say the same, and both stay true when the record of one worker changes.
use Rattle.std.proofs.Common.{◌≡◌, ℕ, ◌+◌, ◌++◌, min, List, [], ◌∷◌, length, set, sym, ap, ◌∙◌, arith}
use mathlib.Core.Option.{some}
use lib.ListN.{get_elem?}
use Rattle.claim_table.specs.declared.claimer.Plan.{Plan}
use Rattle.claim_table.specs.declared.claimer.Record.{Record}
use Rattle.claim_table.specs.declared.view.View.{View}
use Rattle.claim_table.specs.Counts.{up_to, total, once_below}
use Rattle.claim_table.specs.Claims.{is_of}
use Rattle.claim_table.specs.Views.{all_records, first_of, with_only, AreRecords, IsLeastReported}
use Rattle.claim_table.proofs.Lists.{up_to-append}
use Rattle.claim_table.proofs.Views.{one, over, stranger, over_all, ones, over_only, rounds_from, rounds_to, same_strangers}
use Rattle.claim_table.proofs.BadWord.{IsLeastWord, least_stays, least_reports, least_sees, reports_to, sees_to, least_from, least_to}

-- 1 for a record of this worker
abbrev pub is_worker : {R : Type 0} → (R → Record) → ℕ → R → ℕ
is_worker done worker r = is_of worker (done r)

pub record AreCounted {R : Type 0} (done : R → Record) (p : Plan) (views : List (View R)) : Type 0 where
  pub records : over one views ≡ p.workers
  pub one_each : (worker : ℕ) → over (is_worker done worker) views ≡ once_below p.workers worker
  pub of_round : total (stranger p.blocks) views ≡ 0

-- the bad word is the least of all reports
abbrev pub IsLeastOver : {R : Type 0} → (R → Record) → ℕ → List (View R) → Type 0
IsLeastOver done word views = IsLeastWord word (λ x. over (reports_to done x) views) (λ x. over (sees_to done x) views)

module _ {R : Type 0} (done : R → Record) (p : Plan) (views : List (View R)) where
  pub records_counted : AreRecords done p views → AreCounted done p views
  records_counted h = record {
    records = over_all one views ∙ ones (all_records views) ∙ h.workers;
    one_each = λ worker. over_all (is_worker done worker) views ∙ h.one_each worker;
    of_round = rounds_to p.blocks views h.of_round;
  }

  pub counted_records : AreCounted done p views → AreRecords done p views
  counted_records h = record {
    one_each = λ worker. sym (over_all (is_worker done worker) views) ∙ h.one_each worker;
    workers = sym (ones (all_records views)) ∙ sym (over_all one views) ∙ h.records;
    of_round = rounds_from p.blocks views h.of_round;
  }

module _ {R : Type 0} (done : R → Record) (word : ℕ) (views : List (View R)) where
  pub least_over : IsLeastReported done word (all_records views) → IsLeastOver done word views
  least_over h = least_stays word _ _ _ _ (λ x. over_all (reports_to done x) views)
      (λ x. over_all (sees_to done x) views) (least_to done word (all_records views) h)

  pub over_least : IsLeastOver done word views → IsLeastReported done word (all_records views)
  over_least h = least_from done word (all_records views)
      (least_stays word _ _ _ _ (λ x. sym (over_all (reports_to done x) views))
      (λ x. sym (over_all (sees_to done x) views)) h)

-- The only record of one view changes: it is r now.
module _ {R : Type 0} (done : R → Record) (d : R) (views : List (View R)) (id : ℕ) (v : View R) (r : R)
    (one_record : length v.records ≡ 1) (at : get_elem? views id ≡ some v) where
  moved : (g : R → ℕ) → over g (set views id (with_only v r)) + g (first_of d v.records) ≡ over g views + g r
  moved g = over_only d g views id v r one_record at

  pub records_stay : (p : Plan) → (done r).worker ≡ (done (first_of d v.records)).worker → AreCounted done p views
      → AreCounted done p (set views id (with_only v r))
  records_stay p same h = record {
    records = omega (arith, moved one, h.records);
    one_each = λ worker. omega (
      arith,
      moved (is_worker done worker),
      h.one_each worker,
      ap (λ w. is_of worker (record (done r) { worker = w })) same,
    );
    of_round = same_strangers p.blocks views id v r one_record at ∙ h.of_round;
  }

  -- no number was reported or seen
  pub word_stays : (word : ℕ) → (done r).reported ≡ (done (first_of d v.records)).reported
      → (done r).seens ≡ (done (first_of d v.records)).seens
      → IsLeastOver done word views → IsLeastOver done word (set views id (with_only v r))
  word_stays word reported seens h = least_stays word _ _ _ _
      (λ x. omega (arith, moved (reports_to done x), ap (up_to x) reported))
      (λ x. omega (arith, moved (sees_to done x), ap (up_to x) seens)) h

  -- a number was reported
  pub word_reports : (word number : ℕ) → (done r).reported ≡ (done (first_of d v.records)).reported ++ number ∷ []
      → (done r).seens ≡ (done (first_of d v.records)).seens
      → IsLeastOver done word views → IsLeastOver done (min word number) (set views id (with_only v r))
  word_reports word number reported seens h = least_reports word number _ _ _ _
      (λ x. omega (
        arith,
        moved (reports_to done x),
        ap (up_to x) reported,
        up_to-append x (done (first_of d v.records)).reported (number ∷ []),
      ))
      (λ x. omega (arith, moved (sees_to done x), ap (up_to x) seens)) h

  -- the word was seen
  pub word_seen : (word : ℕ) → (done r).reported ≡ (done (first_of d v.records)).reported
      → (done r).seens ≡ (done (first_of d v.records)).seens ++ word ∷ []
      → IsLeastOver done word views → IsLeastOver done word (set views id (with_only v r))
  word_seen word reported seens h = least_sees word _ _ _ _
      (λ x. omega (arith, moved (reports_to done x), ap (up_to x) reported))
      (λ x. omega (
        arith,
        moved (sees_to done x),
        ap (up_to x) seens,
        up_to-append x (done (first_of d v.records)).seens (word ∷ []),
      )) h
