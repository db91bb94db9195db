-- Seats that are dealt from one seat, gathered into one, or come new: sums over all records stay as they are.
-- And the records of the start, one for each worker.
use Rattle.std.proofs.Common.{◌≡◌, ℕ, zero, suc, ◌+◌, ◌-◌, ◌<◌, ◌≤◌, Bool, true, false, cond, ◌&&◌, eqb, eq-eqb, ltb, leb, ⊎_elim, List, [], ◌∷◌, ◌++◌, length, set, refl, ap, ◌∙◌, arith}
use Rattle.std.proofs.lemmas.Bool.Decides.{nat_tests}
use mathlib.Core.Option.{some}
use lib.ListN.{get_elem?}
use Rattle.atomic_table.specs.Table.{Me}
use Rattle.atomic_table.proofs.Lists.{at_set}
use Rattle.claim_table.specs.declared.claimer.Plan.{Plan}
use Rattle.claim_table.specs.declared.claimer.Record.{Record}
use Rattle.claim_table.specs.declared.view.View.{View}
use Rattle.claim_table.specs.Counts.{bit, total, nothing_bad}
use Rattle.claim_table.specs.Views.{view, first_alone, rest_of, made_from, dealt_left, dealt_right, joined, spent}
use Rattle.claim_table.proofs.Lists.{at_most_total, total_dealt, total_joined, total_nothing, total-append}
use Rattle.claim_table.proofs.Views.{one, over, stranger, knows_blocks}
use Rattle.claim_table.proofs.BadWord.{least_stays, least_opens, reports_to, sees_to}
use Rattle.claim_table.proofs.Records.{AreCounted, IsLeastOver, is_worker}

-- all sums over the records of all views are as they were
pub record SameSums {R : Type 0} (blocks : ℕ) (views now : List (View R)) : Type 0 where
  pub sums : (g : R → ℕ) → over g now ≡ over g views
  pub strangers : total (stranger blocks) now ≡ total (stranger blocks) views

pub same_records : {R : Type 0} (done : R → Record) (p : Plan) (views now : List (View R))
    → SameSums p.blocks views now → AreCounted done p views → AreCounted done p now
same_records done p views now same h = record {
  records = same.sums one ∙ h.records;
  one_each = λ worker. same.sums (is_worker done worker) ∙ h.one_each worker;
  of_round = same.strangers ∙ h.of_round;
}

pub same_word : {R : Type 0} (done : R → Record) (blocks word : ℕ) (views now : List (View R))
    → SameSums blocks views now → IsLeastOver done word views → IsLeastOver done word now
same_word done blocks word views now same h = least_stays word _ _ _ _ (λ x. same.sums (reports_to done x))
    (λ x. same.sums (sees_to done x)) h

total_first : {R : Type 0} (g : R → ℕ) (rs : List R) → total g rs ≡ total g (rest_of rs) + total g (first_alone rs)
total_first g [] = refl
total_first g (r ∷ rs) = omega arith

length_first : {R : Type 0} (rs : List R) → length rs ≡ length (rest_of rs) + length (first_alone rs)
length_first [] = refl
length_first (r ∷ rs) = omega arith

stranger_sum : (b : Bool) (m n k : ℕ) → m ≡ n + k → cond {A = ℕ} b 0 m ≡ cond b 0 n + cond b 0 k
stranger_sum true m n k e = refl
stranger_sum false m n k e = e

pub dealt_same : {R : Type 0} (blocks : ℕ) (views : List (View R)) (id : ℕ) (v : View R) → get_elem? views id ≡ some v
    → SameSums blocks views (set views id (dealt_left v) ++ dealt_right v ∷ [])
dealt_same {R} blocks views id v at = record {
  sums = λ g. total_dealt (λ (w : View R). total g w.records) views id v (dealt_left v) (dealt_right v) at
      (total_first g v.records);
  strangers = total_dealt (stranger blocks) views id v (dealt_left v) (dealt_right v) at
      (stranger_sum (eqb v.blocks blocks) (length v.records) (length (rest_of v.records))
      (length (first_alone v.records)) (length_first v.records));
}

cond_same : (b : Bool) → cond {A = ℕ} b 0 0 ≡ 0
cond_same true = refl
cond_same false = refl

no_strangers : (b : Bool) (m : ℕ) → b ≡ true → cond {A = ℕ} b 0 m ≡ 0
no_strangers b m e = rw e refl

pub joined_same : {R : Type 0} (blocks : ℕ) (views : List (View R)) (id : ℕ) (v : View R) (other : ℕ) (w : View R)
    → total (stranger blocks) views ≡ 0 → length w.records ≡ 1
    → get_elem? views id ≡ some v → (other ≡ id → ⊥) → get_elem? (set views id (joined v w)) other ≡ some w
    → SameSums blocks views (set (set views id (joined v w)) other spent)
joined_same {R} blocks views id v other w none one_record at apart at' = record {
  sums = λ g. total_joined (λ (u : View R). total g u.records) views id other v w (joined v w) spent at at'
      (omega (arith, total-append g v.records w.records));
  strangers = total_joined (stranger blocks) views id other v w (joined v w) spent at at' (omega (
    arith,
    none_left v id at,
    none_left w other was,
    both_none,
    cond_same (eqb 0 blocks),
  ));
}
  where
    was : get_elem? views other ≡ some w
    was = ⊎_elim (λ x. absurd (apart x.0)) (λ x. x.1) (at_set views id other (joined v w) w at')

    none_left : (u : View R) (k : ℕ) → get_elem? views k ≡ some u → stranger blocks u ≡ 0
    none_left u k there = let most : stranger blocks u ≤ total (stranger blocks) views = at_most_total
        (stranger blocks) views k u there in omega arith

    both_none : stranger blocks (joined v w) ≡ 0
    both_none = no_strangers (eqb w.blocks blocks) (length (v.records ++ w.records))
        (eq-eqb w.blocks blocks (knows_blocks blocks views other w none one_record was))

pub entered_same : {R : Type 0} (blocks : ℕ) (views : List (View R)) → SameSums blocks views (views ++ view 0 [] ∷ [])
entered_same {R} blocks views = record {
  sums = λ g. total_nothing views (λ (u : View R). total g u.records) (view 0 []) refl;
  strangers = total_nothing views (stranger blocks) (view 0 []) (cond_same (eqb 0 blocks));
}

-- the records of the start
one_of_made : {R : Type 0} (make : ℕ → R) (k n : ℕ) → total one (made_from make k n) ≡ n
one_of_made make k zero = refl
one_of_made make k (suc n) = omega (arith, one_of_made make (k + 1) n)

pub none_of_made : {R : Type 0} (make : ℕ → R) (g : R → ℕ) (k n : ℕ) → ((j : ℕ) → g (make j) ≡ 0)
    → total g (made_from make k n) ≡ 0
none_of_made make g k zero h = refl
none_of_made make g k (suc n) h = omega (arith, none_of_made make g (k + 1) n h, h k)

between : (k n w : ℕ) → bit (eqb k w) + bit (ltb w (k + 1 + n) && leb (k + 1) w) ≡ bit (ltb w (k + suc n) && leb k w)
between k n w = grind (arith, nat_tests)

between_none : (k w : ℕ) → 0 ≡ bit (ltb w (k + 0) && leb k w)
between_none k w = grind (arith, nat_tests)

from_zero : (w n : ℕ) → bit (ltb w (0 + n) && leb 0 w) ≡ bit (ltb w n)
from_zero w n = grind (arith, nat_tests)

worker_of_made : {R : Type 0} (done : R → Record) (make : ℕ → R) (w k n : ℕ) → ((j : ℕ) → (done (make j)).worker ≡ j)
    → total (is_worker done w) (made_from make k n) ≡ bit (ltb w (k + n) && leb k w)
worker_of_made done make w k zero numbered = between_none k w
worker_of_made done make w k (suc n) numbered = omega (
  arith,
  ap (λ j. bit (eqb j w)) (numbered k),
  worker_of_made done make w (k + 1) n numbered,
  between k n w,
)

module _ {R : Type 0} (done : R → Record) (make : ℕ → R) (p : Plan) where
  pub records_open : ((j : ℕ) → (done (make j)).worker ≡ j)
      → AreCounted done p (view p.blocks (made_from make 0 p.workers) ∷ [])
  records_open numbered = record {
    records = omega (arith, one_of_made make 0 p.workers);
    one_each = λ w. omega (arith, worker_of_made done make w 0 p.workers numbered, from_zero w p.workers);
    of_round = omega (
      arith,
      no_strangers (eqb p.blocks p.blocks) (length (made_from make 0 p.workers))
          (eq-eqb p.blocks p.blocks refl),
    );
  }

  pub word_opens : ((x j : ℕ) → reports_to done x (make j) ≡ 0) → ((x j : ℕ) → sees_to done x (make j) ≡ 0)
      → IsLeastOver done nothing_bad (view p.blocks (made_from make 0 p.workers) ∷ [])
  word_opens reported seen = least_opens _ _
      (λ x. omega (arith, none_of_made make (reports_to done x) 0 p.workers (reported x)))
      (λ x. omega (arith, none_of_made make (sees_to done x) 0 p.workers (seen x)))

-- the first seat of the start, and what is left after its first worker's seat is dealt
pub made_step : {R : Type 0} (make : ℕ → R) (k n : ℕ) → k < n
    → made_from make k (n - k) ≡ make k ∷ made_from make (k + 1) (n - (k + 1))
made_step make k n h = let e : n - k ≡ suc (n - (k + 1)) = omega arith in rw e refl

module _ {S R : Type 0} (make : ℕ
    → R) (blocks k n : ℕ) (me : Me S (View R)) (lt : k < n) (is : me ≡ (
      view blocks (made_from make k (n - k)),
      [],
    )) where
  pub dealt_me : (right : Me S (View R)) → right ≡ (dealt_right me.0, []) → right ≡ (view blocks (make k ∷ []), [])
  dealt_me right e = e ∙ ap (λ (m : Me S (View R)). let r : Me S (View R) = (dealt_right m.0, []) in r) is
      ∙ ap (λ rs. let r : Me S (View R) = (view blocks (first_alone rs), []) in r) (made_step make k n lt)

  pub rest_me : (left : Me S (View R)) → left ≡ (dealt_left me.0, me.1)
      → left ≡ (view blocks (made_from make (k + 1) (n - (k + 1))), [])
  rest_me left e = e ∙ ap (λ (m : Me S (View R)). let r : Me S (View R) = (dealt_left m.0, m.1) in r) is
      ∙ ap (λ rs. let r : Me S (View R) = (view blocks (rest_of rs), []) in r) (made_step make k n lt)
