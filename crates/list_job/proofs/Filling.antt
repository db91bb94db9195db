-- The places of a part after one more entry was written.
use Rattle.std.proofs.Common.{◌≡◌, ◌≢◌, ℕ, ◌+◌, ◌-◌, ◌<◌, ◌≤◌, List, length, get_or, set, Option, Some, None, sym, subst, arith, ⊎_elim}
use Rattle.std.proofs.lemmas.Bool.{cases_lt}
use Rattle.std.proofs.lemmas.List.{get_or-set_same, get_or-set_other}
use Rattle.problem.specs.Rules.{ProblemView}
use Rattle.list_job.specs.declared.entry.Entry.{Entry}
use Rattle.list_job.specs.Entries.{IsEntryOf, HasEntryOf}

-- the entries up to the number k
pub filled_next : (p : ProblemView) (places : List (Option Entry)) (first start k : ℕ) (e : Entry) → first ≤ start
    → start ≤ k → k - first < length places
    → IsEntryOf p k e
    → ((j : ℕ) → start ≤ j → j < k → HasEntryOf p j (get_or places (j - first) None))
    → (j : ℕ) → start ≤ j → j < k + 1 → HasEntryOf p j (get_or (set places (k - first) (Some e)) (j - first) None)
filled_next p places first start k e order from within is before j above below =
    ⊎_elim
    (λ earlier. subst (HasEntryOf p j) (sym (get_or-set_other places (k - first) (j - first) (Some e) None (λ same. absurd (omega arith)))) (before j above earlier))
    (λ past. let same : k ≡ j = omega arith in
    subst (λ i. HasEntryOf p i (get_or (set places (k - first) (Some e)) (i - first) None)) same
    (record { entry = e; there = get_or-set_same places (k - first) (Some e) None within; is = is }))
    (cases_lt j k)

-- another place is as it was
pub other_place : (places : List (Option Entry)) (i q : ℕ) (e : Entry) → q ≢ i
    → get_or (set places i (Some e)) q None ≡ get_or places q None
other_place places i q e apart = get_or-set_other places i q (Some e) None apart
