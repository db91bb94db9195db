-- When the board is closed, one view has the records of all seats: what it knows is known of the seats.
use Rattle.std.proofs.Common.{◌≡◌, ℕ, List, [], ◌∷◌, length, map, refl, sym, ap, ◌∙◌, arith}
use mathlib.Core.Option.{some}
use lib.ListN.{get_elem?}
use Rattle.claim_table.specs.declared.claimer.Plan.{Plan}
use Rattle.claim_table.specs.declared.claimer.Record.{Record}
use Rattle.claim_table.specs.declared.view.View.{View}
use Rattle.claim_table.specs.Counts.{total}
use Rattle.claim_table.specs.Views.{IsLeastReported}
use Rattle.claim_table.proofs.Lists.{all_at, length-map_is}
use Rattle.claim_table.proofs.Views.{one, over, ones, nothing_of_none}
use Rattle.claim_table.proofs.BadWord.{least_stays, reports_to, sees_to, least_from}
use Rattle.claim_table.proofs.Records.{AreCounted, IsLeastOver}

pub total-map : {A B : Type 0} (g : B → ℕ) (f : A → B) (xs : List A) → total g (map f xs) ≡ total (λ x. g (f x)) xs
total-map g f [] = refl
total-map g f (x ∷ xs) = omega (arith, total-map g f xs)

module _ {A R : Type 0} (done : R → Record) (record_of : A
    → R) (seats : List A) (p : Plan) (views : List (View R)) (id : ℕ) (v : View R)
    (counted : AreCounted done p views) (at : get_elem? views id ≡ some v) (is : v.records ≡ map record_of seats)
    (all : length seats ≡ p.workers) where
  as_many : length v.records ≡ p.workers
  as_many = ap length is ∙ length-map_is record_of seats ∙ all

  -- what all records add up to, the seats add up to
  pub gathered : (g : R → ℕ) → over g views ≡ total (λ s. g (record_of s)) seats
  gathered g =
      all_at (λ (w : View R). total g w.records) (λ (w : View R). total one w.records) views id v
      (λ w. nothing_of_none g w.records) at (omega (arith, counted.records, ones v.records, as_many))
      ∙ ap (total g) is ∙ total-map g record_of seats

  -- the bad word is the least number that the seats reported
  pub least_gathered : (word : ℕ) → IsLeastOver done word views → IsLeastReported (λ s. done (record_of s)) word seats
  least_gathered word h = least_from (λ s. done (record_of s)) word seats
      (least_stays word _ _ _ _ (λ x. sym (gathered (reports_to done x))) (λ x. sym (gathered (sees_to done x))) h)
