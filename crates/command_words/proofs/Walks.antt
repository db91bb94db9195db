-- What clap makes of the words after a command of the table. Its walk over the words is followed word by word, together with
-- the items that the words say: at each point what is left of the walk passes exactly if the items that are left pass.
use Rattle.std.proofs.Common.{◌≡◌, cond, ℕ, List, [], ◌∷◌, ◌++◌, map, fold, find, Option, Some, None, option_map, is_some, Bool, true, false, not, ◌&&◌, length, slice_get, refl, ap, sym, subst, ◌∙◌}
use Rattle.std.proofs.lemmas.Bool.{false≢true}
use Rattle.std.proofs.lemmas.Option.{same_Some}
use Rattle.std.specs.List.{list_any}
use Rattle.std.specs.Str.{chars}
use Rattle.clap.specs.Lexer.{long_of, short_of}
use Rattle.clap.specs.Walk.{plain_word, Held, Row, Rule, Text, Waiting, idle, value, Walk, after_flag, after_step, arg_by_id, arg_by_index, arg_by_long, has_short, long_met, used, with_default, nothing_held, rows_after, settled, finished, walked}
use Rattle.clap.specs.Walk.{option as waits_for}
use Rattle.clap.specs.Simple.{Shape}
use Rattle.clap.specs.Takes.{is_given}
use Rattle.clap.specs.Kinds.{Kinds, check_kinds, or_else}
use Rattle.clap.specs.Faults.{check_fault, default_fault, defaults_fault, flags_fault, level_fault, long_fault, settle_fault, step_fault, turn_fault, use_fault, walk_fault}
use Rattle.clap.specs.declared.error.kind.ErrorKind.TheVariants as kind
use Rattle.command_words.specs.Words.{Item, plain, option}
use Rattle.command_words.proofs.Items.{Items, Rest, more, items_by, rest_by, items_of, rest_of, form_by, long_form}
use Rattle.command_words.specs.Rows.{rows_for}
use Rattle.command_words.proofs.Args.{Arg, rule_at, are_different, find_map, found_named, named, place_after, same_text}
use Rattle.command_words.proofs.Rows.{Given, empty, is_given_row, passes, use_is, used_rows}
use Rattle.command_words.proofs.Bools.{and_false, or_true, and_both, or_else_end}
use Rattle.command_words.proofs.Passing.{leaf, by_long, by_place, lacks, then_use, take_items, put, given_after, from_more, from_rest, not_given, or_else_assoc, both_pass, either_way, all_items, plain_more, option_more, value_next, rest_more, value_here, value_unknown, IsWord, AreWords, no_chars}

-- ---- the walk of clap

-- the value that was read last
abbrev pub Pending : Type 0
Pending = Option (Arg × Text)

abbrev pub settle_of : Given → Pending → Bool
settle_of given None = true
settle_of given (Some p) = passes p.0 p.1 given

abbrev pub after : Given → Pending → Given
after given None = given
after given (Some p) = given ++ (p.0.id, p.1) ∷ []

abbrev pend : Pending → Option (Text × List Text)
pend None = None
pend (Some p) = Some (p.0.id, p.1 ∷ [])

abbrev held_with : Given → Option (Text × List Text) → Held
held_with given p = record { rows = rows_for given; pending = p; skip = 0 }

abbrev pub walk_at : Given → Option (Text × List Text) → Waiting → ℕ → Walk
walk_at given p waiting i = record { held = held_with given p; waiting = waiting; position = i; is_trailing = false; stopped = None }

no_default : (a : Arg) (rows : List Row) → with_default rows (rule_at a) ≡ rows
no_default a rows = either_way _ rows

no_default_fault : (a : Arg) (rows : List Row) → default_fault rows (rule_at a) ≡ []
no_default_fault a rows = rw or_true

no_defaults : (args : List Arg) (rows : List Row) → defaults_fault rows (map rule_at args) ≡ []
unfolding defaults_fault
no_defaults [] rows = refl
no_defaults (a ∷ args) rows = rw (no_default_fault a rows, no_default a rows) (no_defaults args rows)

pub rows_finished : (args : List Arg) (rows : List Row) → fold with_default rows (map rule_at args) ≡ rows
rows_finished [] rows = refl
rows_finished (a ∷ args) rows =
    ap (λ r. fold with_default r (map rule_at args)) (no_default a rows) ∙ rows_finished args rows

lacks_row : (args : List Arg) (given : Given)
    → list_any (λ r. r.required && not (is_given r.id (rows_for given))) (map rule_at args) ≡ lacks args given
lacks_row [] given = refl
lacks_row (a ∷ args) given = rw (is_given_row a.id given, lacks_row args given)

end_test : (b : Bool) → empty (check_kinds false false b) ≡ not b
end_test true = refl
end_test false = refl

module _ (name : Text) (args : List Arg) (different : are_different args ≡ true) where
  abbrev rules : List Rule
  rules = map rule_at args

  abbrev shape : Shape
  shape = leaf name args

  abbrev ending : Held → Kinds
  ending h =
      or_else (settle_fault rules false h)
      (or_else (defaults_fault (settled rules h).rows rules) (check_fault shape (finished rules h) false))

  abbrev total : Walk → List Text → Kinds
  total w ws = or_else (walk_fault shape [] w ws) (ending (fold (walked rules []) w ws).held)

  starts : (ws : List Text) → level_fault shape [] nothing_held ws false [] ≡ total (walk_at [] None idle 1) ws
  starts ws = refl

  one_step : (w : Walk) (word : Text) (ws : List Text)
      → total w (word ∷ ws) ≡ or_else (turn_fault shape [] w word) (total (walked rules [] w word) ws)
  unfolding walk_fault
  one_step w word ws = or_else_assoc (turn_fault shape [] w word) _ _

  rule_named : (id : Text) → arg_by_id rules id ≡ option_map rule_at (named args id)
  rule_named id = find_map rule_at _ args

  rule_by_long : (long : Text) → arg_by_long rules long ≡ option_map rule_at (by_long args long)
  rule_by_long long = find_map rule_at _ args

  rule_by_place : (i : ℕ) → arg_by_index rules i ≡ option_map rule_at (by_place args i)
  rule_by_place i = find_map rule_at _ args

  -- the argument is found by its name
  abbrev IsKnown : Arg → Type 0
  IsKnown a = named args a.id ≡ Some a

  abbrev IsKnownPending : Pending → Type 0
  IsKnownPending None = Unit {0}
  IsKnownPending (Some p) = IsKnown p.0

  settles : (given : Given) (p : Pending) → IsKnownPending p
      → empty (settle_fault rules false (held_with given (pend p))) ≡ settle_of given p
  settles given None known = refl
  settles given (Some (a, x)) known = rw (rule_named a.id, known) (use_is a x given)

  settled_are : (given : Given) (p : Pending) → IsKnownPending p → settle_of given p ≡ true
      → (settled rules (held_with given (pend p))).rows ≡ rows_for (after given p)
  settled_are given None known ok = refl
  settled_are given (Some (a, x)) known ok = rw (rule_named a.id, known) (used_rows a x given (not_given a x given ok))

  checked : (rows : List Row) (given : Given) → rows ≡ rows_for given
      → empty (or_else (defaults_fault rows rules) (check_fault shape (fold with_default rows rules) false)) ≡ not (lacks args given)
  checked rows given e =
      rw (no_defaults args rows, rows_finished args rows, e, lacks_row args given) (end_test (lacks args given))

  idle_ends : (given : Given) (p : Pending) (i : ℕ) → IsKnownPending p
      → empty (total (walk_at given (pend p) idle i) []) ≡ (settle_of given p && not (lacks args (after given p)))
  unfolding walk_fault
  idle_ends given p i known =
      both_pass _ _ _ _ (settles given p known) (λ ok. checked _ (after given p) (settled_are given p known ok))

  -- ---- one word, if no option waits for its value

  -- what holds of the words after it
  record Behind (ws : List Text) (items : Items) (rest : Rest) : Type 0 where
    at_idle : (given : Given) (p : Pending) (i : ℕ) → IsKnownPending p
        → empty (total (walk_at given (pend p) idle i) ws)
        ≡ (settle_of given p && all_items (λ is. take_items args is (after given p) i) items)
    at_wait : (given : Given) (a : Arg) (i : ℕ) → IsKnown a
        → empty (total (walk_at given (Some (a.id, [])) (waits_for a.id) i) ws) ≡ value_next args (Some a) given i rest

  -- an option of this rule, with what is attached to it
  abbrev long_turned : Option Rule → Option Text → Walk → Text → List Text → Kinds
  long_turned r v w word ws =
      let met = long_met rules r v w.held in
      let step = after_flag rules w.waiting word met.0 met.1 in
      or_else (or_else (long_fault rules false r v w.held) (step_fault shape w.position step.0 step.1))
      (total (after_step rules word w step.0 step.1) ws)

  attaches_from : (a : Arg) (given : Given) (i : ℕ) (v : Text) (ws : List Text) (items : Items) (rest : Rest) (rows : List Row)
      → Behind ws items rest → rows ≡ rows_for given
      → empty (or_else (use_fault false (rule_at a) (v ∷ []) rows) (total (record (walk_at given None idle i) { held = record { rows = used (rule_at a) (v ∷ []) rows; pending = None; skip = 0 } }) ws))
      ≡ (passes a v given && all_items (λ is. take_items args is (given ++ (a.id, v) ∷ []) i) items)
  attaches_from a given i v ws items rest rows behind e =
      rw (e) (both_pass _ _ _ _ (use_is a v given) (λ fine. rw (used_rows a v given (not_given a v given fine)) (behind.at_idle (given ++ (a.id, v) ∷ []) None i tt)))

  attaches : (a : Arg) (given : Given) (p : Pending) (i : ℕ) (v word : Text) (ws : List Text) (items : Items) (rest : Rest)
      → Behind ws items rest → IsKnownPending p
      → empty (long_turned (Some (rule_at a)) (Some v) (walk_at given (pend p) idle i) word ws)
      ≡
      (settle_of given p && (passes a v (after given p) && all_items (λ is. take_items args is (after given p ++ (a.id, v) ∷ []) i) items))
  attaches a given p i v word ws items rest behind known =
      rw (or_else_end _, or_else_assoc) (both_pass _ _ _ _ (settles given p known) (λ ok. attaches_from a (after given p) i v ws items rest _ behind (settled_are given p known ok)))

  bares : (a : Arg) (given : Given) (p : Pending) (i : ℕ) (word : Text) (ws : List Text) (items : Items) (rest : Rest)
      → Behind ws items rest → IsKnownPending p → IsKnown a
      → empty (long_turned (Some (rule_at a)) None (walk_at given (pend p) idle i) word ws)
      ≡ (settle_of given p && value_next args (Some a) (after given p) i rest)
  bares a given p i word ws items rest behind known is =
      rw (or_else_end _) (both_pass _ _ _ _ (settles given p known) (λ ok. rw (settled_are given p known ok) (behind.at_wait (after given p) a i is)))

  known_long : (long : Text) (a : Arg) → by_long args long ≡ Some a → IsKnown a
  known_long long a e = found_named _ args a different e

  known_place : (i : ℕ) (a : Arg) → by_place args i ≡ Some a → IsKnown a
  known_place i a e = found_named _ args a different e

  long_cases : (o : Option Arg) (long : Text) (v : Option Text) (given : Given) (p : Pending) (i : ℕ) (word : Text) (ws : List Text) (items : Items) (rest : Rest)
      → by_long args long ≡ o → Behind ws items rest → IsKnownPending p
      → empty (long_turned (option_map rule_at o) v (walk_at given (pend p) idle i) word ws)
      ≡ (settle_of given p && all_items (λ is. take_items args is (after given p) i) (items_by (long_form long v) word items rest))
  long_cases None long (Some v) given p i word ws items rest o behind known =
      rw (option_more args long v items (after given p) i, o) (sym (and_false _))
  long_cases None long None given p i word ws items rest o behind known =
      rw (rest_more args long rest (after given p) i, o, value_unknown args rest (after given p) i) (sym (and_false _))
  long_cases (Some a) long (Some v) given p i word ws items rest o behind known =
      rw (option_more args long v items (after given p) i, o) (attaches a given p i v word ws items rest behind known)
  long_cases (Some a) long None given p i word ws items rest o behind known =
      rw (rest_more args long rest (after given p) i, o) (bares a given p i word ws items rest behind known (known_long long a o))

  -- no option has a short name
  short_fails : (c : List Arg) (x : ℕ) → find (λ r. not (is_some r.index) && has_short r x) (map rule_at c) ≡ None
  short_fails [] x = refl
  short_fails (a ∷ c) x = step a.place (short_fails c x)
    where
      step : (o : Option ℕ) → find (λ r. not (is_some r.index) && has_short r x) (map rule_at c) ≡ None
          → cond (not (is_some o) && false) (Some (rule_at a)) (find (λ r. not (is_some r.index) && has_short r x) (map rule_at c)) ≡ None
      step None e = e
      step (Some k) e = e

  bundle_fails : (flags : Text) (c : ℕ) (h : Held) → slice_get (chars flags) 0 ≡ Some c
      → flags_fault rules false (length flags) flags 0 h ≡ kind.UnknownArgument ∷ []
  unfolding flags_fault
  bundle_fails [] c h e = absurd (no_chars c e)
  bundle_fails (x ∷ xs) c h e = rw (e, short_fails args c) refl

  abbrev plain_turned : Walk → Text → List Text → Kinds
  plain_turned w word ws =
      or_else (step_fault shape w.position w.held value) (total (after_step rules word w w.held value) ws)

  plain_cases : (o : Option Arg) (given : Given) (p : Pending) (i : ℕ) (word : Text) (ws : List Text) (items : Items) (rest : Rest)
      → by_place args i ≡ o → Behind ws items rest → IsKnownPending p
      → empty (plain_turned (walk_at given (pend p) idle i) word ws)
      ≡ (settle_of given p && all_items (λ is. take_items args is (after given p) i) (more (plain word) items))
  plain_cases None given p i word ws items rest o behind known =
      rw (plain_more args word items (after given p) i, rule_by_place i, o) (sym (and_false _))
  plain_cases (Some a) given p i word ws items rest o behind known =
      rw (plain_more args word items (after given p) i, rule_by_place i, o, and_false _)
      (both_pass _ _ _ _ (settles given p known) (λ ok. rw (settled_are given p known ok) (behind.at_idle (after given p) (Some (a, word)) (place_after i) (known_place i a o))))

  abbrev turned : Walk → Text → List Text → Kinds
  turned w word ws = or_else (turn_fault shape [] w word) (total (walked rules [] w word) ws)

  idle_tested : (l : Option (Text × Option Text)) (short : Option Text) (given : Given) (p : Pending) (i : ℕ) (word : Text) (ws : List Text) (items : Items) (rest : Rest)
      → long_of word ≡ l → short_of word ≡ short → IsWord word → Behind ws items rest → IsKnownPending p
      → empty (turned (walk_at given (pend p) idle i) word ws)
      ≡ (settle_of given p && all_items (λ is. take_items args is (after given p) i) (items_by (form_by l short) word items rest))
  unfolding walked
  idle_tested (Some (long, v)) short given p i word ws items rest lw sw is behind known =
      rw (is.not_dashes, lw, rule_by_long long) (long_cases (by_long args long) long v given p i word ws items rest refl behind known)
  idle_tested None (Some flags) given p i word ws items rest lw sw is behind known =
      rw (is.not_dashes, lw, sw, bundle_fails flags (is.flagged flags sw).0 _ (is.flagged flags sw).1) (sym (and_false _))
  idle_tested None None given p i word ws items rest lw sw is behind known =
      rw (is.not_dashes, lw, sw) (plain_cases (by_place args i) given p i word ws items rest refl behind known)

  -- ---- one word, if an option waits for its value

  settle_waiting : (a : Arg) (given : Given) → IsKnown a
      → settle_fault rules false (held_with given (Some (a.id, []))) ≡ kind.InvalidValue ∷ []
  settle_waiting a given known = rw (rule_named a.id, known) refl

  abbrev wait_at : Given → Arg → ℕ → Walk
  wait_at given a i = walk_at given (Some (a.id, [])) (waits_for a.id) i

  wait_long : (o : Option Arg) (v : Option Text) (given : Given) (a : Arg) (i : ℕ) (word : Text) (ws : List Text)
      → IsKnown a
      → empty (long_turned (option_map rule_at o) v (wait_at given a i) word ws) ≡ false
  wait_long None v given a i word ws known = refl
  wait_long (Some b) (Some v) given a i word ws known = rw (settle_waiting a given known) refl
  wait_long (Some b) None given a i word ws known = rw (settle_waiting a given known) refl

  abbrev wait_plain_turned : Walk → Text → List Text → Kinds
  wait_plain_turned w word ws =
      let met = plain_word rules w.waiting word w.held in
      or_else (step_fault shape w.position met.0 met.1) (total (after_step rules word w met.0 met.1) ws)

  wait_plain : (given : Given) (a : Arg) (i : ℕ) (word : Text) (ws : List Text) → IsKnown a
      → wait_plain_turned (wait_at given a i) word ws ≡ total (walk_at given (Some (a.id, word ∷ [])) idle i) ws
  wait_plain given a i word ws known = rw (rule_named a.id, known, same_text a.id) refl

  long_is_no_value : (long : Text) (v : Option Text) (word : Text) (items : Items)
      → rest_by (long_form long v) word items ≡ None
  long_is_no_value long None word items = refl
  long_is_no_value long (Some v) word items = refl

  wait_tested : (l : Option (Text × Option Text)) (short : Option Text) (given : Given) (a : Arg) (i : ℕ) (word : Text) (ws : List Text) (items : Items) (rest : Rest)
      → long_of word ≡ l → short_of word ≡ short → IsWord word → Behind ws items rest → IsKnown a
      → empty (turned (wait_at given a i) word ws)
      ≡ value_next args (Some a) given i (rest_by (form_by l short) word items)
  unfolding walked
  wait_tested (Some (long, v)) short given a i word ws items rest lw sw is behind known =
      rw (is.not_dashes, lw, rule_by_long long, long_is_no_value long v word items) (wait_long (by_long args long) v given a i word ws known)
  wait_tested None (Some flags) given a i word ws items rest lw sw is behind known =
      rw (is.not_dashes, lw, sw, bundle_fails flags (is.flagged flags sw).0 _ (is.flagged flags sw).1) refl
  wait_tested None None given a i word ws items rest lw sw is behind known =
      rw (is.not_dashes, lw, sw, value_here args (Some a) word items given i) (ap empty (wait_plain given a i word ws known) ∙ behind.at_idle given (Some (a, word)) i known)

  -- ---- all words

  wait_ends : (given : Given) (a : Arg) (i : ℕ) → IsKnown a → empty (total (wait_at given a i) []) ≡ false
  unfolding walk_fault
  wait_ends given a i known = rw (settle_waiting a given known) refl

  are_read : (ws : List Text) → AreWords ws → Behind ws (items_of ws) (rest_of ws)
  are_read [] are = record { at_idle = idle_ends; at_wait = wait_ends }
  are_read (w ∷ ws) are =
      let behind = are_read ws are.1 in
      record {
        at_idle = λ given p i known. ap empty (one_step (walk_at given (pend p) idle i) w ws)
            ∙ idle_tested (long_of w) (short_of w) given p i w ws (items_of ws) (rest_of ws) refl refl are.0 behind known;
        at_wait = λ given a i known. ap empty (one_step (wait_at given a i) w ws)
            ∙ wait_tested (long_of w) (short_of w) given a i w ws (items_of ws) (rest_of ws) refl refl are.0 behind known;
      }

  -- the words after a command pass exactly if they say items that it accepts
  pub level_reads : (ws : List Text) → AreWords ws
      → empty (level_fault shape [] nothing_held ws false []) ≡ all_items (λ is. take_items args is [] 1) (items_of ws)
  level_reads ws are = ap empty (starts ws) ∙ (are_read ws are).at_idle [] None 1 tt

  -- ---- the rows that the words leave

  finishes : (given : Given) (p : Pending) → IsKnownPending p → settle_of given p ≡ true
      → finished rules (held_with given (pend p)) ≡ rows_for (after given p)
  finishes given p known ok = rows_finished args _ ∙ settled_are given p known ok

  abbrev left : Walk → List Text → List Row
  left w ws = finished rules (fold (walked rules []) w ws).held

  record Leaves (ws : List Text) (items : Items) (rest : Rest) : Type 0 where
    at_idle : (given : Given) (p : Pending) (i : ℕ) → IsKnownPending p → (is : List Item) → items ≡ Some is
        → (settle_of given p && take_items args is (after given p) i) ≡ true
        → left (walk_at given (pend p) idle i) ws ≡ rows_for (given_after args is (after given p) i)
    at_wait : (given : Given) (a : Arg) (i : ℕ) → IsKnown a → (r : Text × List Item) → rest ≡ Some r
        → then_use (Some a) r.0 given (λ g. take_items args r.1 g i) ≡ true
        → left (wait_at given a i) ws ≡ rows_for (given_after args r.1 (given ++ (a.id, r.0) ∷ []) i)

  walked_joined : (a : Arg) (long v word : Text) (given : Given) (p : Pending) (i : ℕ)
      → long_of word ≡ Some (long, Some v) → IsWord word → by_long args long ≡ Some a → IsKnownPending p
      → settle_of given p ≡ true → passes a v (after given p) ≡ true
      → walked rules [] (walk_at given (pend p) idle i) word ≡ walk_at (after given p ++ (a.id, v) ∷ []) None idle i
  unfolding walked
  walked_joined a long v word given p i lw is o known ok fine =
      rw (is.not_dashes, lw, rule_by_long long, o, settled_are given p known ok, used_rows a v (after given p) (not_given a v (after given p) fine)) refl

  walked_alone : (a : Arg) (long word : Text) (given : Given) (p : Pending) (i : ℕ) → long_of word ≡ Some (long, None)
      → IsWord word → by_long args long ≡ Some a → IsKnownPending p → settle_of given p ≡ true
      → walked rules [] (walk_at given (pend p) idle i) word ≡ wait_at (after given p) a i
  unfolding walked
  walked_alone a long word given p i lw is o known ok =
      rw (is.not_dashes, lw, rule_by_long long, o, settled_are given p known ok) refl

  walked_plain : (a : Arg) (word : Text) (given : Given) (p : Pending) (i : ℕ) → long_of word ≡ None
      → short_of word ≡ None → IsWord word → by_place args i ≡ Some a → IsKnownPending p → settle_of given p ≡ true
      → walked rules [] (walk_at given (pend p) idle i) word
      ≡ walk_at (after given p) (Some (a.id, word ∷ [])) idle (place_after i)
  unfolding walked
  walked_plain a word given p i lw sw is o known ok =
      rw (is.not_dashes, lw, sw, rule_by_place i, o, and_false _, settled_are given p known ok) refl

  walked_value : (a : Arg) (word : Text) (given : Given) (i : ℕ) → long_of word ≡ None → short_of word ≡ None
      → IsWord word → IsKnown a
      → walked rules [] (wait_at given a i) word ≡ walk_at given (Some (a.id, word ∷ [])) idle i
  unfolding walked
  walked_value a word given i lw sw is known = rw (is.not_dashes, lw, sw, rule_named a.id, known, same_text a.id) refl

  joined_leaves : (o : Option Arg) (long v word : Text) (given : Given) (p : Pending) (i : ℕ) (ws : List Text) (items : Items) (rest : Rest) (js : List Item)
      → by_long args long ≡ o → long_of word ≡ Some (long, Some v) → IsWord word → IsKnownPending p
      → Leaves ws items rest → items ≡ Some js
      → (settle_of given p && then_use o v (after given p) (λ g. take_items args js g i)) ≡ true
      → left (walked rules [] (walk_at given (pend p) idle i) word) ws
      ≡ rows_for (given_after args js (put o v (after given p)) i)
  joined_leaves None long v word given p i ws items rest js o lw is known behind e t =
      absurd (false≢true (and_both (settle_of given p) false t).1)
  joined_leaves (Some a) long v word given p i ws items rest js o lw is known behind e t =
      let (ok, uses) = and_both (settle_of given p) _ t in
      let (fine, more) = and_both (passes a v (after given p)) _ uses in
      ap (λ w. left w ws) (walked_joined a long v word given p i lw is o known ok fine)
      ∙ behind.at_idle (after given p ++ (a.id, v) ∷ []) None i tt js e more

  alone_leaves : (o : Option Arg) (long word : Text) (given : Given) (p : Pending) (i : ℕ) (ws : List Text) (items : Items) (rest : Rest) (r : Text × List Item)
      → by_long args long ≡ o → long_of word ≡ Some (long, None) → IsWord word → IsKnownPending p → Leaves ws items rest
      → rest ≡ Some r
      → (settle_of given p && then_use o r.0 (after given p) (λ g. take_items args r.1 g i)) ≡ true
      → left (walked rules [] (walk_at given (pend p) idle i) word) ws
      ≡ rows_for (given_after args r.1 (put o r.0 (after given p)) i)
  alone_leaves None long word given p i ws items rest r o lw is known behind e t =
      absurd (false≢true (and_both (settle_of given p) false t).1)
  alone_leaves (Some a) long word given p i ws items rest r o lw is known behind e t =
      let (ok, uses) = and_both (settle_of given p) _ t in
      ap (λ w. left w ws) (walked_alone a long word given p i lw is o known ok)
      ∙ behind.at_wait (after given p) a i (known_long long a o) r e uses

  plain_leaves : (o : Option Arg) (word : Text) (given : Given) (p : Pending) (i : ℕ) (ws : List Text) (items : Items) (rest : Rest) (js : List Item)
      → by_place args i ≡ o → long_of word ≡ None → short_of word ≡ None → IsWord word → IsKnownPending p
      → Leaves ws items rest → items ≡ Some js
      → (settle_of given p && then_use o word (after given p) (λ g. take_items args js g (place_after i))) ≡ true
      → left (walked rules [] (walk_at given (pend p) idle i) word) ws
      ≡ rows_for (given_after args js (put o word (after given p)) (place_after i))
  plain_leaves None word given p i ws items rest js o lw sw is known behind e t =
      absurd (false≢true (and_both (settle_of given p) false t).1)
  plain_leaves (Some a) word given p i ws items rest js o lw sw is known behind e t =
      let (ok, uses) = and_both (settle_of given p) _ t in
      ap (λ w. left w ws) (walked_plain a word given p i lw sw is o known ok)
      ∙ behind.at_idle (after given p) (Some (a, word)) (place_after i) (known_place i a o) js e uses

  idle_leaves : (l : Option (Text × Option Text)) (short : Option Text) (word : Text) (given : Given) (p : Pending) (i : ℕ) (ws : List Text) (items : Items) (rest : Rest) (is : List Item)
      → long_of word ≡ l → short_of word ≡ short → IsWord word → IsKnownPending p → Leaves ws items rest
      → items_by (form_by l short) word items rest ≡ Some is
      → (settle_of given p && take_items args is (after given p) i) ≡ true
      → left (walked rules [] (walk_at given (pend p) idle i) word) ws
      ≡ rows_for (given_after args is (after given p) i)
  idle_leaves (Some (long, Some v)) short word given p i ws items rest is lw sw text known behind e =
      from_more (option long v) items is
      (λ is. (settle_of given p && take_items args is (after given p) i) ≡ true → left (walked rules [] (walk_at given (pend p) idle i) word) ws ≡ rows_for (given_after args is (after given p) i)) e
      (λ js f. joined_leaves (by_long args long) long v word given p i ws items rest js refl lw text known behind f)
  idle_leaves (Some (long, None)) short word given p i ws items rest is lw sw text known behind e =
      from_rest long rest is
      (λ is. (settle_of given p && take_items args is (after given p) i) ≡ true → left (walked rules [] (walk_at given (pend p) idle i) word) ws ≡ rows_for (given_after args is (after given p) i)) e
      (λ r f. alone_leaves (by_long args long) long word given p i ws items rest r refl lw text known behind f)
  idle_leaves None (Some flags) word given p i ws items rest is lw sw text known behind e = cc
  idle_leaves None None word given p i ws items rest is lw sw text known behind e =
      from_more (plain word) items is
      (λ is. (settle_of given p && take_items args is (after given p) i) ≡ true → left (walked rules [] (walk_at given (pend p) idle i) word) ws ≡ rows_for (given_after args is (after given p) i)) e
      (λ js f. plain_leaves (by_place args i) word given p i ws items rest js refl lw sw text known behind f)

  wait_leaves : (l : Option (Text × Option Text)) (short : Option Text) (word : Text) (given : Given) (a : Arg) (i : ℕ) (ws : List Text) (items : Items) (rest : Rest) (r : Text × List Item)
      → long_of word ≡ l → short_of word ≡ short → IsWord word → IsKnown a → Leaves ws items rest
      → rest_by (form_by l short) word items ≡ Some r
      → then_use (Some a) r.0 given (λ g. take_items args r.1 g i) ≡ true
      → left (walked rules [] (wait_at given a i) word) ws
      ≡ rows_for (given_after args r.1 (given ++ (a.id, r.0) ∷ []) i)
  wait_leaves (Some (long, Some v)) short word given a i ws items rest r lw sw text known behind e = cc
  wait_leaves (Some (long, None)) short word given a i ws items rest r lw sw text known behind e = cc
  wait_leaves None (Some flags) word given a i ws items rest r lw sw text known behind e = cc
  wait_leaves None None word given a i ws None rest r lw sw text known behind e = cc
  wait_leaves None None word given a i ws (Some js) rest r lw sw text known behind e =
      subst
      (λ r. then_use (Some a) r.0 given (λ g. take_items args r.1 g i) ≡ true → left (walked rules [] (wait_at given a i) word) ws ≡ rows_for (given_after args r.1 (given ++ (a.id, r.0) ∷ []) i))
      (same_Some (word, js) r e)
      (λ t. ap (λ w. left w ws) (walked_value a word given i lw sw text known) ∙ behind.at_idle given (Some (a, word)) i known js refl t)

  all_leave : (ws : List Text) → AreWords ws → Leaves ws (items_of ws) (rest_of ws)
  all_leave [] are = record {
    at_idle = λ given p i known is e t.
        let nothing : [] ≡ is = same_Some [] is e in
        let ok = (and_both (settle_of given p) _ t).0 in
        subst (λ is. left (walk_at given (pend p) idle i) [] ≡ rows_for (given_after args is (after given p) i)) nothing (finishes given p known ok);
    at_wait = λ given a i known r e. cc;
  }
  all_leave (w ∷ ws) are =
      let behind = all_leave ws are.1 in
      record {
        at_idle = λ given p i known is e t. idle_leaves (long_of w) (short_of w) w given p i ws (items_of ws) (rest_of ws) is refl refl are.0 known behind e t;
        at_wait = λ given a i known r e t. wait_leaves (long_of w) (short_of w) w given a i ws (items_of ws) (rest_of ws) r refl refl are.0 known behind e t;
      }

  -- the rows after words that pass are those of their items
  pub level_leaves : (ws : List Text) (is : List Item) → AreWords ws → items_of ws ≡ Some is
      → take_items args is [] 1 ≡ true → rows_after rules [] ws ≡ rows_for (given_after args is [] 1)
  level_leaves ws is are e t = (all_leave ws are).at_idle [] None 1 tt is e t
