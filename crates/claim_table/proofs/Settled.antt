-- Once all seats at the cursor are dry, each block is taken once.
use Rattle.std.proofs.Common.{◌≡◌, ℕ, suc, ◌<◌, true, min, List, [], ◌∷◌, length, map, get_or, refl, sym, ap, ◌∙◌, arith}
use mathlib.Core.Option.{some}
use lib.ListN.{get_elem?}
use Rattle.claim_table.specs.declared.claimer.Plan.{Plan}
use Rattle.claim_table.specs.declared.claimer.Record.{Record}
use Rattle.claim_table.specs.declared.view.View.{View}
use Rattle.claim_table.specs.Counts.{bit, total, once_below}
use Rattle.claim_table.specs.Claims.{dry_count, takes_of}
use Rattle.claim_table.specs.Cursor.{cursor, itself}
use Rattle.claim_table.proofs.Counted.{IsCounted}
use Rattle.claim_table.proofs.Gathered.{gathered, total-map}

all_dry : {A : Type 0} (done : A → Record) (seats : List A)
    → ((k : ℕ) (d : A) → k < length seats → (done (get_or seats k d)).dry ≡ true)
    → total (λ s. dry_count (done s)) seats ≡ length seats
all_dry done [] h = refl
all_dry done (s ∷ seats) h =
    let dry : dry_count (done s) ≡ 1 = ap bit (h 0 s (omega arith)) in
    omega (arith, dry, all_dry done seats (λ k d lt. h (suc k) d (omega arith)))

pub once_dry : {A : Type 0} (done : A
    → Record) (seats : List A) (p : Plan) (words : List ℕ) (views : List (View Record)) (id : ℕ) (v : View Record)
    → IsCounted p words views → get_elem? views id ≡ some v → v.records ≡ map done seats
    → length seats ≡ p.workers → 0 < p.workers
    → ((k : ℕ) (d : A) → k < length seats → (done (get_or seats k d)).dry ≡ true)
    → (b : ℕ) → total (takes_of b) (map done seats) ≡ once_below p.blocks b
once_dry done seats p words views id v h at is all some_worker dry b =
    let sum = gathered itself done seats p views id v h.records at is all in
    let past_end : min (cursor words) p.blocks ≡ p.blocks = omega (
      arith,
      sum dry_count,
      all_dry done seats dry,
      h.counts,
      h.takes,
    ) in
    total-map (takes_of b) done seats ∙ sym (sum (takes_of b)) ∙ h.each_once b ∙ ap (λ n. once_below n b) past_end
