-- Each step keeps the cursor rule: the sums over views move by what the step changes in the record of one worker.
use Rattle.std.proofs.Common.{◌≡◌, ℕ, ◌+◌, ◌%◌, ◌^◌, ◌<◌, ◌≤◌, false, eqb, ltb, min, List, [], ◌∷◌, ◌++◌, length, set, refl, ap, ◌∙◌, arith}
use Rattle.std.proofs.lemmas.List.{length-set, length-append, get_or-set_same, get_or-set_other}
use Rattle.std.proofs.lemmas.Bool.{lt-ltb, le-ltb}
use Rattle.std.proofs.Math.Nat.{mod-eq_of_lt}
use Rattle.std.proofs.lemmas.Bool.Decides.{nat_tests}
use mathlib.Core.Option.{some, none}
use native.Mathlib.Decide.{dec_lt}
use Rattle.atomic_table.specs.Table.{Me, step, keeps, opening, Allows, Splits, Joins, Enters}
use lib.ListN.{get_elem?}
use Rattle.claim_table.specs.declared.claimer.Plan.{Plan}
use Rattle.claim_table.specs.declared.claimer.Record.{Record}
use Rattle.claim_table.specs.declared.view.View.{View}
use Rattle.claim_table.specs.Counts.{bit, total, nothing_bad}
use Rattle.claim_table.specs.Claims.{fresh, with_taken, made_dry, with_reported, with_seen, taken_count, dry_count, takes_of}
use Rattle.claim_table.specs.Views.{view, with_only, NewSeat, made_from, dealt_left, dealt_right, joined, spent}
use Rattle.claim_table.specs.Cursor.{cursor, bad, itself, only, after_take, CursorHolds, Takes, Reports, Sees, opening_view}
use Rattle.claim_table.proofs.Lists.{occurrences-append}
use Rattle.claim_table.proofs.BadWord.{reports_to}
use Rattle.claim_table.proofs.Views.{one, over, over_only, over_at, over_le, knows_blocks}
use Rattle.claim_table.proofs.Records.{records_stay, word_stays, word_reports, word_seen}
use Rattle.claim_table.proofs.Dealing.{SameSums, same_records, same_word, dealt_same, joined_same, entered_same, none_of_made, records_open, word_opens}
use Rattle.claim_table.proofs.Counted.{IsCounted, counted, claimed}

dry_at_most_one : (r : Record) → dry_count r ≤ one r
dry_at_most_one r = grind (arith, nat_tests)

one_more : (n m b : ℕ) → n < m → bit (ltb b (min (n + 1) m)) ≡ bit (ltb b (min n m)) + (bit (eqb n b) + 0)
one_more n m b h = grind (arith, nat_tests)

none_more : (n m b : ℕ) → m ≤ n → bit (ltb b (min (n + 1) m)) ≡ bit (ltb b (min n m))
none_more n m b h = let e : min (n + 1) m ≡ min n m = omega arith in ap (λ k. bit (ltb b k)) e

not_below : (n m : ℕ) → bit (ltb n (min n m)) ≡ 0
not_below n m = grind (arith, nat_tests)

fits_word : (p : Plan) (words : List ℕ) (views : List (View Record)) → IsCounted p words views
    → (cursor words + 1) % 2 ^ 64 ≡ cursor words + 1
fits_word p words views h = mod-eq_of_lt (omega (
  arith,
  over_le dry_count one views dry_at_most_one,
  h.records.records,
  h.limits,
  h.takes,
  h.counts,
))

-- The steps of the seat of one worker.
module _ (p : Plan) (words : List ℕ) (views : List (View Record)) (id : ℕ) (v : View Record)
    (h : IsCounted p words views)
    (one_record : length v.records ≡ 1) (at : get_elem? views id ≡ some v) where
  -- what a number of each record adds up to if the record of this worker becomes r
  moved : (r : Record) (g : Record → ℕ) → over g (set views id (with_only v r)) + g (only v) ≡ over g views + g r
  moved r g = over_only (fresh 0) g views id v r one_record at

  -- word 0 has another number
  cursor_set : (n : ℕ) → cursor (set words 0 n) ≡ n
  cursor_set n = get_or-set_same words 0 n 0 (omega (arith, h.two_words))

  bad_left : (n : ℕ) → bad (set words 0 n) ≡ bad words
  bad_left n = get_or-set_other words 0 1 n 0 (omega arith)

  -- word 1 has another number
  bad_set : (n : ℕ) → bad (set words 1 n) ≡ n
  bad_set n = get_or-set_same words 1 n 0 (omega (arith, h.two_words))

  cursor_left : (n : ℕ) → cursor (set words 1 n) ≡ cursor words
  cursor_left n = get_or-set_other words 1 0 n 0 (omega arith)

  takes_one : cursor words < p.blocks
      → IsCounted p (set words 0 (cursor words + 1)) (set views id (with_only v (with_taken (only v) (cursor words))))
  takes_one lt = record {
    limits = h.limits;
    two_words = length-set words 0 (n + 1) ∙ h.two_words;
    records = records_stay itself (fresh 0) views id v r one_record at p refl h.records;
    each_once = λ x. rw (cursor_set (n + 1)) (omega (
      arith,
      moved r (takes_of x),
      h.each_once x,
      occurrences-append x (only v).taken (n ∷ []),
      one_more n p.blocks x lt,
    ));
    takes = rw (cursor_set (n + 1)) (omega (arith, took, h.takes));
    counts = rw (cursor_set (n + 1)) (omega (arith, took, was_dry, moved r dry_count, h.counts));
    least = rw (bad_left (n + 1)) (word_stays itself (fresh 0) views id v r one_record at
        (bad words) refl refl h.least);
  }
    where
      n : ℕ
      n = cursor words

      r : Record
      r = with_taken (only v) n

      was_dry : over dry_count views ≡ 0
      was_dry = omega (arith, h.counts, h.takes)

      took : over taken_count (set views id (with_only v r)) ≡ over taken_count views + 1
      took = omega (arith, moved r taken_count, length-append (only v).taken (n ∷ []))

  -- a seat that is not dry and finds no block is dry from then on
  takes_none : (only v).dry ≡ false → p.blocks ≤ cursor words
      → IsCounted p (set words 0 (cursor words + 1)) (set views id (with_only v (made_dry (only v))))
  takes_none wet le = record {
    limits = h.limits;
    two_words = length-set words 0 (n + 1) ∙ h.two_words;
    records = records_stay itself (fresh 0) views id v r one_record at p refl h.records;
    each_once = λ x. rw (cursor_set (n + 1)) (omega (
      arith,
      moved r (takes_of x),
      h.each_once x,
      none_more n p.blocks x le,
    ));
    takes = rw (cursor_set (n + 1)) (omega (arith, moved r taken_count, h.takes));
    counts = rw (cursor_set (n + 1)) (omega (arith, moved r taken_count, moved r dry_count, not_dry, h.counts));
    least = rw (bad_left (n + 1)) (word_stays itself (fresh 0) views id v r one_record at
        (bad words) refl refl h.least);
  }
    where
      n : ℕ
      n = cursor words

      r : Record
      r = made_dry (only v)

      not_dry : dry_count (only v) ≡ 0
      not_dry = ap bit wet

  finds : (only v).dry ≡ false → Dec (cursor words < v.blocks)
      → IsCounted p (set words 0 ((cursor words + 1) % 2 ^ 64))
      (set views id (with_only v (after_take v (cursor words))))
  finds wet (yes lt) =
      rw (fits_word p words views h, lt-ltb _ _ lt)
      (takes_one (omega (arith, knows_blocks p.blocks views id v h.records.of_round one_record at)))
  finds wet (no nlt) =
      rw (fits_word p words views h, le-ltb (cursor words) v.blocks (omega arith))
      (takes_none wet (omega (arith, knows_blocks p.blocks views id v h.records.of_round one_record at)))

  -- a number is reported, and the bad word is the lesser of it and what it was
  reports_one : (k : ℕ) → IsCounted p (set words 1 (min (bad words) k))
      (set views id (with_only v (with_reported (only v) k)))
  reports_one k = record {
    limits = h.limits;
    two_words = length-set words 1 n ∙ h.two_words;
    records = records_stay itself (fresh 0) views id v r one_record at p refl h.records;
    each_once = λ x. rw (cursor_left n) (omega (arith, moved r (takes_of x), h.each_once x));
    takes = rw (cursor_left n) (omega (arith, moved r taken_count, h.takes));
    counts = rw (cursor_left n) (omega (arith, moved r taken_count, moved r dry_count, h.counts));
    least = rw (bad_set n) (word_reports itself (fresh 0) views id v r one_record at (bad words) k refl refl h.least);
  }
    where
      n : ℕ
      n = min (bad words) k

      r : Record
      r = with_reported (only v) k

  sees_one : IsCounted p (set words 1 (bad words)) (set views id (with_only v (with_seen (only v) (bad words))))
  sees_one = record {
    limits = h.limits;
    two_words = length-set words 1 (bad words) ∙ h.two_words;
    records = records_stay itself (fresh 0) views id v r one_record at p refl h.records;
    each_once = λ x. rw (cursor_left (bad words)) (omega (arith, moved r (takes_of x), h.each_once x));
    takes = rw (cursor_left (bad words)) (omega (arith, moved r taken_count, h.takes));
    counts = rw (cursor_left (bad words)) (omega (arith, moved r taken_count, moved r dry_count, h.counts));
    least = rw (bad_set (bad words))
        (word_seen itself (fresh 0) views id v r one_record at (bad words) refl refl h.least);
  }
    where
      r : Record
      r = with_seen (only v) (bad words)

pub takes : (S : Type 0) (p : Plan) (slots id : ℕ) (me : Me S (View Record)) → length me.0.records ≡ 1
    → (only me.0).dry ≡ false
    → Allows (CursorHolds {S = S} p) slots id me 0 (λ n. (n + 1) % 2 ^ 64) (Takes (step slots 0 1 0 none) me)
takes S p slots id me e wet s kept homes at fits =
    let h = counted p s.words s.views kept in
    let v : View Record = me.0 in
    let n : ℕ = cursor s.words in (
      with_only v (after_take v n),
      keeps,
      tt,
      claimed p _ _ (finds p s.words s.views id v h e at wet (dec_lt n v.blocks)),
      (
        refl,
        omega (arith, over_at (fresh 0) taken_count s.views id v e at, h.takes),
        omega (arith, over_at (fresh 0) (takes_of n) s.views id v e at, h.each_once n, not_below n p.blocks),
      ),
    )

pub reports : (S : Type 0) (p : Plan) (slots id : ℕ) (me : Me S (View Record)) (k : ℕ) → length me.0.records ≡ 1
    → Allows (CursorHolds {S = S} p) slots id me 1 (λ n. min n k) (Reports (step slots 1 k 0 none) me)
reports S p slots id me k e s kept homes at fits = (
  with_only me.0 (with_reported (only me.0) k),
  keeps,
  tt,
  claimed p _ _ (reports_one p s.words s.views id me.0 (counted p s.words s.views kept) e at k),
  refl,
)

pub sees : (S : Type 0) (p : Plan) (slots id : ℕ) (me : Me S (View Record)) → length me.0.records ≡ 1
    → Allows (CursorHolds {S = S} p) slots id me 1 (λ n. n) (Sees (step slots 1 0 0 none) me)
sees S p slots id me e s kept homes at fits =
    let h = counted p s.words s.views kept in (
      with_only me.0 (with_seen (only me.0) (bad s.words)),
      keeps,
      tt,
      claimed p _ _ (sees_one p s.words s.views id me.0 h e at),
      (
        refl,
        λ x less. omega (
          arith,
          over_at (fresh 0) (reports_to itself x) s.views id me.0 e at,
          h.least.none_less x less,
        ),
      ),
    )

-- the rule looks at sums alone
same_sums : (p : Plan) (words : List ℕ) (views now : List (View Record)) → IsCounted p words views
    → SameSums p.blocks views now → IsCounted p words now
same_sums p words views now h same = record {
  limits = h.limits;
  two_words = h.two_words;
  records = same_records itself p views now same h.records;
  each_once = λ b. same.sums (takes_of b) ∙ h.each_once b;
  takes = same.sums taken_count ∙ h.takes;
  counts = omega (arith, same.sums taken_count, same.sums dry_count, h.counts);
  least = same_word itself p.blocks (bad words) views now same h.least;
}

pub deals : (S : Type 0) (p : Plan) (id : ℕ) (v : View Record)
    → Splits (CursorHolds {S = S} p) id v (dealt_left v) (dealt_right v)
deals S p id v s kept at = claimed p _ _
    (same_sums p s.words s.views (set s.views id (dealt_left v) ++ dealt_right v ∷ [])
    (counted p s.words s.views kept) (dealt_same p.blocks s.views id v at))

pub joins : (S : Type 0) (p : Plan) (id : ℕ) (v : View Record) (other : ℕ) (w : View Record)
    → length w.records ≡ 1 → Joins (CursorHolds {S = S} p) id v other w (joined v w) spent
joins S p id v other w e s kept at apart at' =
    let h = counted p s.words s.views kept in
    claimed p _ _ (same_sums p s.words s.views (set (set s.views id (joined v w)) other spent) h
    (joined_same p.blocks s.views id v other w h.records.of_round e at apart at'))

pub enters : (S : Type 0) (p : Plan) (slots : ℕ) (me : Me S (View Record))
    → Enters (CursorHolds {S = S} p) slots 0 (λ n w. NewSeat (step slots 0 0 0 none) me n (w, []))
enters S p slots me s kept homes fits = (
  view 0 [],
  claimed p _ _ (same_sums p s.words s.views (s.views ++ view 0 [] ∷ []) (counted p s.words s.views kept)
      (entered_same p.blocks s.views)),
  refl,
)

none_below : (m b : ℕ) → 0 ≡ bit (ltb b (min 0 m))
none_below m b = grind (arith, nat_tests)

opens_with : (p : Plan) → (p.blocks ≤ 1024) × (p.workers ≤ 64)
    → IsCounted p (0 ∷ nothing_bad ∷ []) (opening_view p ∷ [])
opens_with p limits = record {
  limits = limits;
  two_words = refl;
  records = records_open itself fresh p (λ j. refl);
  each_once = λ x. omega (arith, none_of_made fresh (takes_of x) 0 p.workers (λ j. refl), none_below p.blocks x);
  takes = omega (arith, nothing_taken);
  counts = omega (arith, nothing_taken, none_of_made fresh dry_count 0 p.workers (λ j. refl));
  least = word_opens itself fresh p (λ x j. refl) (λ x j. refl);
}
  where
    nothing_taken : total taken_count (made_from fresh 0 p.workers) ≡ 0
    nothing_taken = none_of_made fresh taken_count 0 p.workers (λ j. refl)

pub opens : (S : Type 0) (p : Plan) → (p.blocks ≤ 1024) × (p.workers ≤ 64)
    → CursorHolds {S = S} p (opening (0 ∷ nothing_bad ∷ []) [] (opening_view p))
opens S p limits = claimed p _ _ (opens_with p limits)
