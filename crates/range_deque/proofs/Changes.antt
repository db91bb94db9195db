-- What a step changes keeps the range rule. A step changes one word and the record of one worker, so the sums over views
-- change by what changes in that record, and what holds of the other workers' words stays true.
use Rattle.std.proofs.Common.{◌≡◌, ◌≢◌, ℕ, zero, suc, ◌+◌, ◌-◌, ◌%◌, ◌^◌, ◌<◌, ◌≤◌, Bool, true, false, not, ◌&&◌, eqb, eq-eqb, ne_eqb, ltb, min, List, [], ◌∷◌, length, get_or, set, sym, refl, ap, subst, ◌∙◌, arith}
use Rattle.std.proofs.lemmas.List.{length-set, get_or-set_same, get_or-set_other, set-get_or}
use Rattle.std.proofs.lemmas.Bool.{lt-ltb, le-ltb}
use mathlib.Core.Logic.{dite}
use mathlib.Core.Option.{some, none, some-ne-none}
use native.Mathlib.Decide.{ℕ_discrete}
use lib.ListN.{get_elem?}
use Rattle.atomic_table.proofs.Lists.{set_here}
use Rattle.claim_table.specs.declared.claimer.Plan.{Plan}
use Rattle.claim_table.specs.declared.view.View.{View}
use Rattle.claim_table.specs.Counts.{bit, occurrences, once_below}
use Rattle.claim_table.specs.Views.{with_only}
use Rattle.claim_table.proofs.Lists.{occurrences-append}
use Rattle.claim_table.proofs.Views.{over, over_only, over_at, knows_blocks}
use Rattle.claim_table.proofs.Records.{is_worker, IsLeastOver, records_stay, word_stays}
use Rattle.range_deque.specs.declared.history.RangeRecord.{RangeRecord}
use Rattle.range_deque.specs.Words.{low, high, within, in_word, spare, shortened, range_word, total_of_first}
use Rattle.range_deque.specs.Ranges.{done_of, in_hand, has_taken, bad, opening_record, only, with_front, run_dry, taken_from, with_hand, with_look, published}
use Rattle.range_deque.proofs.Words.{low-next, high-next, no_wrap, front_leaves, nothing_there, parted, spare_within, low-shortened, high-shortened, low-range_word, high-range_word, first_within, last_within, total_of_first-set, total_of_first-set_behind, total_of_first-at, at_most_once, below_if_once, length_less}
use Rattle.range_deque.proofs.Counted.{those, is_dry, is_wet, is_fresh, is_stale, wet_hand, IsCounted, passed_or_not, of_self}

past : (i n : ℕ) → i < n → n ≢ i
past i n lt = λ e. omega arith

before : (n x : ℕ) → x < n → x ≢ n
before n x lt = λ e. omega arith

-- a number of one worker is 0 at another's record
not_self : (r : RangeRecord) (w : ℕ) (b : Bool) → r.done.worker ≢ w → bit (eqb r.done.worker w && b) ≡ 0
not_self r w b n = ap (λ (x : Bool). bit (x && b)) (ne_eqb r.done.worker w n)

at_length : {A : Type 0} (xs : List A) (i : ℕ) (x : A) → get_elem? xs i ≡ some x → i < length xs
at_length [] i x e = absurd (some-ne-none x (sym e))
at_length (y ∷ ys) zero x e = omega arith
at_length (y ∷ ys) (suc i) x e = omega (arith, at_length ys i x e)

no_bit : (b : Bool) → bit (b && false) ≡ 0
no_bit true = refl
no_bit false = refl

-- what is said of each worker's word, if it is said of one and of the others
by_worker : (P : ℕ → Type 0) (i x : ℕ) → P i → (x ≢ i → P x) → P x
by_worker P i x mine others = dite (ℕ_discrete x i) (λ is. subst P (sym is) mine) others

-- The steps of the seat of one worker.
module _ (p : Plan) (words : List ℕ) (views : List (View RangeRecord)) (id : ℕ) (v : View RangeRecord)
    (h : IsCounted p words views)
    (one_record : length v.records ≡ 1) (at : get_elem? views id ≡ some v) where
  -- the views after the step, with r for the record
  abbrev now : RangeRecord → List (View RangeRecord)
  now r = set views id (with_only v r)

  -- what a number of each record adds up to then
  moved : (r : RangeRecord) (g : RangeRecord → ℕ) → over g (now r) + g (only v) ≡ over g views + g r
  moved r g = over_only (opening_record 0) g views id v r one_record at

  pub here_at : (g : RangeRecord → ℕ) → g (only v) ≤ over g views
  here_at g = over_at (opening_record 0) g views id v one_record at

  -- the worker is one of the round
  pub own_word : (i : ℕ) → (only v).done.worker ≡ i → i < p.workers
  own_word i own =
      let there : is_worker done_of i (only v) ≡ 1 = ap bit (eq-eqb (only v).done.worker i own) in
      below_if_once p.workers i (omega (arith, here_at (is_worker done_of i), there, h.records.one_each i))

  -- nobody else has a record of this worker, so if the seat is wet, no record of the worker is dry
  not_dry : (i : ℕ) → (only v).done.worker ≡ i → (only v).done.dry ≡ false → over (those i is_dry) views ≡ 0
  not_dry i own wet =
      omega (
        arith,
        passed_or_not is_dry i views,
        here_at (those i is_wet),
        of_self (only v) i (not (only v).done.dry) own,
        ap (λ (b : Bool). bit (not b)) wet,
        h.records.one_each i,
        at_most_once p.workers i,
      )

  -- after a take no record of the worker is fresh
  none_fresh : (i : ℕ) (r : RangeRecord) → r.done.worker ≡ i → r.fresh ≡ false
      → over (is_worker done_of i) (now r) ≤ 1 → over (those i is_fresh) (now r) ≡ 0
  none_fresh i r own stale most =
      let there = over_at (opening_record 0) (those i is_stale) (now r) id (with_only v r) refl
      (set_here views id (with_only v r) (at_length views id v at)) in
      omega (
        arith,
        passed_or_not is_fresh i (now r),
        there,
        of_self r i (not r.fresh) own,
        ap (λ (b : Bool). bit (not b)) stale,
        most,
      )

  -- the hand holds blocks of the round alone
  hand_ends : (only v).hand_lo < (only v).hand_hi → (only v).hand_hi ≤ p.blocks
  hand_ends some_hand =
      let b : ℕ = (only v).hand_hi - 1 in
      omega (
        arith,
        below_if_once p.blocks b (omega (
          arith,
          h.places b,
          here_at (in_hand b),
          last_within (only v).hand_lo (only v).hand_hi some_hand,
        )),
      )

  -- Another record, in which the worker, its reports and what it saw are the same.
  module _ (r : RangeRecord) (worker : r.done.worker ≡ (only v).done.worker) where
    same_worker : (x : ℕ) → over (is_worker done_of x) (now r) ≡ once_below p.workers x
    same_worker x = (records_stay done_of (opening_record 0) views id v r one_record at p worker h.records).one_each x

    -- Worker i's word and this record change. What the one loses the other wins.
    word_changes : (i new : ℕ) → i < p.workers → r.done.reported ≡ (only v).done.reported
        → r.done.seens ≡ (only v).done.seens
        → ((b : ℕ) → in_word b new + in_hand b r + has_taken b r ≡ in_word b (get_or words i 0) + in_hand b
        (only v) + has_taken b (only v))
        → high new ≤ p.blocks
        → ((x : ℕ) → x ≢ i → those x is_dry r ≡ those x is_dry (only v))
        → ((x : ℕ) → x ≢ i → those x is_fresh r ≡ those x is_fresh (only v)) → wet_hand r ≡ 0
        → (over (those i is_dry) (now r) ≡ 0 → low new ≤ high new)
        → (0 < over (those i is_dry) (now r) → low new ≡ high new + 1)
        → (0 < over (those i is_fresh) (now r) → low new < high new)
        → IsCounted p (set words i new) (now r)
    word_changes i new mine reported seens blocks end dries freshes dry_hand wet_here dry_here fresh_here = record {
      limits = h.limits;
      count = length-set words i new ∙ h.count;
      records = records_stay done_of (opening_record 0) views id v r one_record at p worker h.records;
      places = λ b. omega (
        arith,
        total_of_first-set (in_word b) p.workers words i new mine (omega (
          arith,
          h.count,
        )),
        moved r (in_hand b),
        moved r (has_taken b),
        blocks b,
        h.places b,
      );
      ends = λ x lt. by_worker (λ y. high (get_or (set words i new) y 0) ≤ p.blocks) i x (rw here end)
          (λ n. rw (there x n) (h.ends x lt));
      wet = λ x lt. by_worker (λ y. over (those y is_dry) (now r) ≡ 0
          → low (get_or (set words i new) y 0) ≤ high (get_or (set words i new) y 0)) i x
          (rw here wet_here) (λ n absent. rw (there x n)
          (h.wet x lt (omega (arith, moved r (those x is_dry), dries x n, absent))));
      dry = λ x lt. by_worker (λ y. 0 < over (those y is_dry) (now r)
          → low (get_or (set words i new) y 0) ≡ high (get_or (set words i new) y 0) + 1) i x
          (rw here dry_here) (λ n some_there. rw (there x n)
          (h.dry x lt (omega (arith, moved r (those x is_dry), dries x n, some_there))));
      hands = omega (arith, moved r wet_hand, h.hands, dry_hand);
      freshes = λ x lt. by_worker (λ y. 0 < over (those y is_fresh) (now r)
          → low (get_or (set words i new) y 0) < high (get_or (set words i new) y 0)) i x
          (rw here fresh_here) (λ n some_there. rw (there x n)
          (h.freshes x lt (omega (arith, moved r (those x is_fresh), freshes x n, some_there))));
      least = rw (there p.workers (past i p.workers mine))
          (word_stays done_of (opening_record 0) views id v r one_record at (bad p words) reported seens h.least);
    }
      where
        here : get_or (set words i new) i 0 ≡ new
        here = get_or-set_same words i new 0 (omega (arith, h.count))

        there : (x : ℕ) → x ≢ i → get_or (set words i new) x 0 ≡ get_or words x 0
        there x n = get_or-set_other words i x new 0 n

    -- The words of the workers stay, and so do what the worker has taken and holds, and whether it is dry or fresh.
    words_stay : (ws : List ℕ) → length ws ≡ length words → ((x : ℕ) → x < p.workers → get_or ws x 0 ≡ get_or words x 0)
        → ((b : ℕ) → total_of_first (in_word b) p.workers ws ≡ total_of_first (in_word b) p.workers words)
        → ((b : ℕ) → in_hand b r ≡ in_hand b (only v)) → ((b : ℕ) → has_taken b r ≡ has_taken b (only v))
        → ((x : ℕ) → those x is_dry r ≡ those x is_dry (only v))
        → ((x : ℕ) → those x is_fresh r ≡ those x is_fresh (only v)) → wet_hand r ≡ wet_hand (only v)
        → IsLeastOver done_of (bad p ws) (now r) → IsCounted p ws (now r)
    words_stay ws size same first hand taken dries freshes wet_hands least = record {
      limits = h.limits;
      count = size ∙ h.count;
      records = records_stay done_of (opening_record 0) views id v r one_record at p worker h.records;
      places = λ b. omega (arith, first b, moved r (in_hand b), moved r (has_taken b), hand b, taken b, h.places b);
      ends = λ x lt. rw (same x lt) (h.ends x lt);
      wet = λ x lt absent. rw (same x lt) (h.wet x lt (omega (arith, moved r (those x is_dry), dries x, absent)));
      dry = λ x lt some_there. rw (same x lt)
          (h.dry x lt (omega (arith, moved r (those x is_dry), dries x, some_there)));
      hands = omega (arith, moved r wet_hand, wet_hands, h.hands);
      freshes = λ x lt some_there. rw (same x lt)
          (h.freshes x lt (omega (arith, moved r (those x is_fresh), freshes x, some_there)));
      least = least;
    }

  -- A take of the own word, by a seat that is not dry.
  module _ (i : ℕ) (own : (only v).done.worker ≡ i) (wet : (only v).done.dry ≡ false) where
    abbrev pub w : ℕ
    w = get_or words i 0

    mine : i < p.workers
    mine = own_word i own

    other : (x : ℕ) → x ≢ i → (only v).done.worker ≢ x
    other x n = λ e. n (sym e ∙ own)

    low_next : low (get_or words i 0 + 1) ≡ low (get_or words i 0) + 1
    low_next = low-next (get_or words i 0) (omega (arith, h.wet i mine (not_dry i own wet), h.ends i mine, h.limits))

    high_next : high (get_or words i 0 + 1) ≡ high (get_or words i 0)
    high_next = high-next (get_or words i 0) (omega (arith, h.wet i mine (not_dry i own wet), h.ends i mine, h.limits))

    in_next : (b : ℕ) → in_word b (get_or words i 0 + 1) ≡ within b (low (get_or words i 0) + 1)
        (high (get_or words i 0))
    in_next b = λ k. within b (low_next k) (high_next k)

    -- the first block is taken
    takes_front : low (get_or words i 0) < high (get_or words i 0)
        → IsCounted p (set words i (get_or words i 0 + 1)) (now (with_front (only v) (low (get_or words i 0))))
    takes_front lt = word_changes r refl i (w + 1) mine refl refl
        (λ b. omega (
          arith,
          in_next b,
          front_leaves b (low w) (high w) lt,
          occurrences-append b (only v).done.taken (low w ∷ []),
        ))
        (omega (arith, high_next, h.ends i mine))
        (λ x n. not_self r x false (other x n) ∙ sym (not_self (only v) x (only v).done.dry (other x n)))
        (λ x n. not_self r x false (other x n) ∙ sym (not_self (only v) x (only v).fresh (other x n)))
        (omega (
          arith,
          here_at wet_hand,
          h.hands,
          ap (λ (b : Bool). bit (ltb (only v).hand_lo (only v).hand_hi && not b)) wet,
        ))
        (λ absent. omega (arith, low_next, high_next))
        (λ some_there. absurd (omega (arith, moved r (those i is_dry), of_self r i false own, not_dry i own wet)))
        (λ some_there. absurd (omega (
          arith,
          none_fresh i r own refl (omega (arith, same_worker r refl i, at_most_once p.workers i)),
        )))
      where
        r : RangeRecord
        r = with_front (only v) (low w)

    -- an empty word: the seat is dry
    takes_none : high (get_or words i 0) ≤ low (get_or words i 0)
        → IsCounted p (set words i (get_or words i 0 + 1)) (now (run_dry (only v)))
    takes_none le = word_changes r refl i (w + 1) mine refl refl
        (λ b. omega (
          arith,
          in_next b,
          nothing_there b (low w) (high w) le,
          nothing_there b (low w + 1) (high w) (omega arith),
        ))
        (omega (arith, high_next, h.ends i mine))
        (λ x n. not_self r x true (other x n) ∙ sym (not_self (only v) x (only v).done.dry (other x n)))
        (λ x n. not_self r x false (other x n) ∙ sym (not_self (only v) x (only v).fresh (other x n)))
        (no_bit (ltb (only v).hand_lo (only v).hand_hi))
        (λ absent. absurd (omega (
          arith,
          moved r (those i is_dry),
          of_self r i true own,
          of_self (only v) i (only v).done.dry own,
          ap bit wet,
        )))
        (λ some_there. omega (arith, low_next, high_next, h.wet i mine (not_dry i own wet)))
        (λ some_there. absurd (omega (
          arith,
          none_fresh i r own refl (omega (arith, same_worker r refl i, at_most_once p.workers i)),
        )))
      where
        r : RangeRecord
        r = run_dry (only v)

    -- the first block of the word is a block that this worker has not taken
    pub new_block : low (get_or words i 0) < high (get_or words i 0)
        → (low (get_or words i 0) < v.blocks) × (occurrences (low (get_or words i 0)) (only v).done.taken ≡ 0)
        × (length (only v).done.taken < v.blocks)
    new_block lt = (omega (arith, blocks, h.ends i mine), not_taken, omega (arith, blocks, shorter))
      where
        blocks : v.blocks ≡ p.blocks
        blocks = knows_blocks p.blocks views id v h.records.of_round one_record at

        not_taken : occurrences (low w) (only v).done.taken ≡ 0
        not_taken =
            omega (
              arith,
              total_of_first-at (in_word (low w)) p.workers words i mine (omega (arith, h.count, mine)),
              first_within (low w) (high w) lt,
              h.places (low w),
              at_most_once p.blocks (low w),
              here_at (has_taken (low w)),
            )

        shorter : length (only v).done.taken < p.blocks
        shorter = length_less p.blocks (only v).done.taken (low w) (omega (arith, h.ends i mine))
            (λ x. omega (arith, here_at (has_taken x), h.places x)) not_taken

    pub finds : Dec (low (get_or words i 0) < high (get_or words i 0))
        → IsCounted p (set words i ((get_or words i 0 + 1) % 2 ^ 64)) (now (taken_from (only v) (get_or words i 0)))
    finds (yes lt) = rw (
      no_wrap w (omega (arith, h.ends i mine, h.limits)),
      lt-ltb (low w) (high w) lt,
    ) (takes_front lt)
    finds (no nlt) = rw (
      no_wrap w (omega (arith, h.ends i mine, h.limits)),
      le-ltb (low w) (high w) (omega arith),
    ) (takes_none (omega arith))

  -- the back part of a victim's range becomes the hand
  pub cuts_back : (j : ℕ) → j < p.workers → (only v).done.dry ≡ true → (only v).hand_hi ≤ (only v).hand_lo
      → low (get_or words j 0) + 2 ≤ high (get_or words j 0)
      → IsCounted p (set words j (shortened (get_or words j 0))) (now (with_hand (only v) (get_or words j 0)))
  cuts_back j victim dried no_hand long = word_changes r refl j (shortened w) victim refl refl
      (λ b. omega (
        arith,
        in_shortened b,
        parted b (low w) (high w - spare w) (high w) (omega (arith, spare_within w long)) (omega arith),
        nothing_there b (only v).hand_lo (only v).hand_hi no_hand,
      ))
      (omega (arith, high-shortened w, h.ends j victim))
      (λ x n. refl)
      (λ x n. refl)
      (ap (λ (b : Bool). bit (ltb (high w - spare w) (high w) && not b)) dried
      ∙ no_bit (ltb (high w - spare w) (high w)))
      (λ absent. omega (arith, low-shortened w, high-shortened w, spare_within w long))
      (λ some_there. absurd (omega (arith, h.dry j victim (omega (arith, moved r (those j is_dry), some_there)))))
      (λ some_there. omega (arith, low-shortened w, high-shortened w, spare_within w long))
    where
      w : ℕ
      w = get_or words j 0

      r : RangeRecord
      r = with_hand (only v) w

      in_shortened : (b : ℕ) → in_word b (shortened w) ≡ within b (low w) (high w - spare w)
      in_shortened b = λ k. within b (low-shortened w k) (high-shortened w k)

  -- the hand becomes the own word, which was empty
  pub publishes_hand : (i : ℕ) → (only v).done.worker ≡ i → (only v).done.dry ≡ true
      → (only v).hand_lo < (only v).hand_hi
      → IsCounted p (set words i (range_word (only v).hand_lo (only v).hand_hi)) (now (published (only v)))
  publishes_hand i own dried some_hand = word_changes r refl i new mine refl refl
      (λ b. omega (
        arith,
        in_new b,
        nothing_there b (low w) (high w) (omega (arith, empty)),
        nothing_there b 0 0 (omega arith),
      ))
      (omega (arith, hi, hand_ends some_hand))
      (λ x n. not_self r x false (other x n) ∙ sym (not_self (only v) x (only v).done.dry (other x n)))
      (λ x n. not_self r x true (other x n) ∙ sym (not_self (only v) x (only v).fresh (other x n)))
      refl
      (λ absent. omega (arith, lo, hi))
      (λ some_there. absurd (omega (
        arith,
        moved r (those i is_dry),
        of_self r i false own,
        here_dry,
        most_dry,
        some_there,
      )))
      (λ some_there. omega (arith, lo, hi))
    where
      w : ℕ
      w = get_or words i 0

      new : ℕ
      new = range_word (only v).hand_lo (only v).hand_hi

      r : RangeRecord
      r = published (only v)

      mine : i < p.workers
      mine = own_word i own

      other : (x : ℕ) → x ≢ i → (only v).done.worker ≢ x
      other x n = λ e. n (sym e ∙ own)

      here_dry : those i is_dry (only v) ≡ 1
      here_dry = of_self (only v) i (only v).done.dry own ∙ ap bit dried

      most_dry : over (those i is_dry) views ≤ 1
      most_dry = omega (arith, passed_or_not is_dry i views, h.records.one_each i, at_most_once p.workers i)

      empty : low w ≡ high w + 1
      empty = h.dry i mine (omega (arith, here_at (those i is_dry), here_dry))

      lo : low new ≡ (only v).hand_lo
      lo = low-range_word (only v).hand_lo (only v).hand_hi (omega (arith, hand_ends some_hand, h.limits))

      hi : high new ≡ (only v).hand_hi
      hi = high-range_word (only v).hand_lo (only v).hand_hi (omega (arith, hand_ends some_hand, h.limits))

      in_new : (b : ℕ) → in_word b new ≡ within b (only v).hand_lo (only v).hand_hi
      in_new b = λ k. within b (lo k) (hi k)

  -- the own word of a dry seat is empty, and one past its end
  pub dry_word : (i : ℕ) → (only v).done.worker ≡ i → (only v).done.dry ≡ true
      → low (get_or words i 0) ≡ high (get_or words i 0) + 1
  dry_word i own dried = h.dry i (own_word i own) (omega (
    arith,
    here_at (those i is_dry),
    of_self (only v) i (only v).done.dry own,
    ap bit dried,
  ))

  -- a look changes nothing but what the thief has looked at
  pub looked : (j found : ℕ) → IsCounted p (set words j (get_or words j 0)) (now (with_look (only v) j found))
  looked j found = subst (λ ws. IsCounted p ws (now r)) (sym (set-get_or words j 0))
      (words_stay r refl words refl (λ x lt. refl) (λ b. refl) (λ b. refl) (λ b. refl) (λ x. refl) (λ x. refl) refl
      (word_stays done_of (opening_record 0) views id v r one_record at (bad p words) refl refl h.least))
    where
      r : RangeRecord
      r = with_look (only v) j found

  -- the bad word changes, and of the record only what was reported or seen
  pub bad_changes : (new : ℕ) (r : RangeRecord) → r.done.worker ≡ (only v).done.worker
      → ((b : ℕ) → in_hand b r ≡ in_hand b (only v)) → ((b : ℕ) → has_taken b r ≡ has_taken b (only v))
      → ((x : ℕ) → those x is_dry r ≡ those x is_dry (only v))
      → ((x : ℕ) → those x is_fresh r ≡ those x is_fresh (only v)) → wet_hand r ≡ wet_hand (only v)
      → IsLeastOver done_of new (now r) → IsCounted p (set words p.workers new) (now r)
  bad_changes new r worker hand taken dries freshes wet_hands least =
      words_stay r worker (set words p.workers new) (length-set words p.workers new)
      (λ x lt. get_or-set_other words p.workers x new 0 (before p.workers x lt))
      (λ b. total_of_first-set_behind (in_word b) p.workers words p.workers new
      (omega arith)) hand taken dries freshes wet_hands
      (subst (λ n. IsLeastOver done_of n (now r))
      (sym (get_or-set_same words p.workers new 0 (omega (arith, h.count)))) least)
