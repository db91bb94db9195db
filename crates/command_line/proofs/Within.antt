-- What words ask is within its limits: the plain words and the values of options are, one by one, and so each command is.
use Rattle.std.proofs.Common.{◌≡◌, ◌≤◌, ℕ, zero, suc, List, [], ◌∷◌, length, find, option_map, option_and_then, unwrap_or, Option, Some, None, Bool, true, false, refl, sym, ap, subst, ◌∙◌, arith, codes}
use Rattle.std.proofs.lemmas.Bool.{false≢true, leb-true}
use Rattle.std.proofs.lemmas.Option.{same_Some}
use Rattle.std.proofs.lemmas.Slice.Eq.{bytes_eq-Decides}
use Rattle.std.specs.Prelude.{nat_le}
use Rattle.std.specs.List.{Contains, list_all}
use Rattle.std.specs.Option.{option_map_or}
use Rattle.std.specs.Str.{bytes_eq}
use Rattle.clap.specs.Walk.{Text}
use Rattle.command_words.specs.declared.table.Limit.TheVariants as limit
use Rattle.command_words.specs.Usages.{Slot, fits}
use Rattle.command_words.specs.Words.{are_options, are_plains, option_fits, options_in, plains_fit, plains_in, number_in, slot_named, value_named}
use Rattle.command_words.proofs.Consequences.{number_within}
use Rattle.command_line.specs.declared.table.Commands.{Commands}
use Rattle.command_line.specs.declared.table.Commands.TheVariants as commands
use Rattle.command_line.specs.Asked.{Asks}
use Rattle.command_line.specs.Limits.{AreWorkers, IsSumWithin, IsWithin}
use Rattle.command_line.specs.Requests.{Options, Request, number_or, workers_in, budget_in, run_asked, resume_asked, make_asked, soak_asked, trees_asked, rank_asked, unrank_asked, split_asked, batch_asked}
use Rattle.command_line.specs.Requests as asks_for
use Rattle.command_line.specs.Table.{CommandRule, rules_of}
use Rattle.command_line.specs.Table as table
use Rattle.command_line.proofs.Rules.{one_word, two_words, three_words, and_both}

-- ---- the values of options

-- the options that were given, which fit these slots
abbrev Fit : List Slot → List (Text × Text) → Type 0
Fit slots given = list_all (option_fits slots) given ≡ true

abbrev read_from : List (Text × Text) → Options
read_from given name = value_named name given

-- a number within the limits, if it was given
number_fits : (slots : List Slot) (given : List (Text × Text)) (name value : Text) (low high : ℕ) → Fit slots given
    → slot_named slots name ≡ Some (table.number name low high) → value_named name given ≡ Some value
    → (n : ℕ) × (number_in value ≡ Some n) × (low ≤ n) × (n ≤ high)
number_fits slots [] name value low high fit slot is = cc
number_fits slots (g ∷ given) name value low high fit slot is =
    by_name (bytes_eq g.0 name) refl is
    (λ rest. number_fits slots given name value low high (and_both (option_fits slots g) _ fit).1 slot rest)
  where
    Found : Type 0
    Found = (n : ℕ) × (number_in value ≡ Some n) × (low ≤ n) × (n ≤ high)

    by_name : (b : Bool) → bytes_eq g.0 name ≡ b → option_map (λ x. x.1) (find (λ x. bytes_eq x.0 name) (g ∷ given)) ≡ Some value
        → (value_named name given ≡ Some value → Found) → Found
    by_name true e is later =
        let found : option_map (λ (x : Text × Text). x.1) (find (λ x. bytes_eq x.0 name) (g ∷ given)) ≡ Some g.1 = rw e refl in
        let same : g.1 ≡ value = same_Some g.1 value (sym found ∙ is) in
        let named : g.0 ≡ name = (bytes_eq-Decides g.0 name).0 e in
        let slot_is : slot_named slots g.0 ≡ Some (table.number name low high) = ap (slot_named slots) named ∙ slot in
        let here : option_fits slots g ≡ true = (and_both (option_fits slots g) _ fit).0 in
        let fine : option_map_or (λ (s : Slot). fits s.limit g.1) (Some (table.number name low high)) false ≡ true =
        ap (λ o. option_map_or (λ (s : Slot). fits s.limit g.1) o false) (sym slot_is) ∙ here in
        number_within low high value (subst (λ v. fits (limit.Number low high) v ≡ true) same fine)
    by_name false e is later =
        let rest : option_map (λ (x : Text × Text). x.1) (find (λ x. bytes_eq x.0 name) (g ∷ given)) ≡ value_named name given = rw e refl in
        later (sym rest ∙ is)

-- the number of an option is within the limits, also if it was not given
pub number_or_fits : (slots : List Slot) (given : List (Text × Text)) (name : Text) (low high other : ℕ) → Fit slots given
    → slot_named slots name ≡ Some (table.number name low high) → low ≤ other → other ≤ high
    → (low ≤ number_or other name (read_from given)) × (number_or other name (read_from given) ≤ high)
number_or_fits slots given name low high other fit slot least most = by_value (value_named name given) refl
  where
    Within : Option Text → Type 0
    Within o = (low ≤ unwrap_or (option_and_then number_in o) other) × (unwrap_or (option_and_then number_in o) other ≤ high)

    by_value : (o : Option Text) → value_named name given ≡ o
        → (low ≤ number_or other name (read_from given)) × (number_or other name (read_from given) ≤ high)
    by_value None e = subst Within (sym e) (least, most)
    by_value (Some value) e =
        let (n, read, above, below) = number_fits slots given name value low high fit slot e in
        subst Within (sym e) (subst (λ o. (low ≤ unwrap_or o other) × (unwrap_or o other ≤ high)) (sym read) (above, below))

-- the workers of a command that takes `--workers`
abbrev TakesWorkers : List Slot → Type 0
TakesWorkers slots = slot_named slots (codes "workers") ≡ Some table.workers

workers_fit : (slots : List Slot) (given : List (Text × Text)) → Fit slots given → TakesWorkers slots
    → AreWorkers (number_or 1 (codes "workers") (read_from given))
workers_fit slots given fit takes =
    let (least, most) = number_or_fits slots given (codes "workers") 1 64 1 fit takes (omega arith) (omega arith) in
    record { least = least; most = most }

-- ---- each command

-- what a rule asks of plain words and options that fit it is within its limits
abbrev AsksWithin : CommandRule → Type 0
AsksWithin r = (ws : List Text) (given : List (Text × Text)) (request : Request) → are_plains r.usage ws ≡ true
    → Fit r.usage.options given → r.asked ws (read_from given) ≡ Some request → IsWithin request

abbrev sum_options : List Slot
sum_options = table.workers ∷ table.budget ∷ table.stop_file ∷ []

-- the length of a list of words that fit their slots
length_within : (slots : List Slot) (ws : List Text) → plains_fit slots ws ≡ true → length ws ≤ length slots
length_within slots [] e = omega arith
length_within [] (w ∷ ws) e = absurd (false≢true e)
length_within (s ∷ slots) (w ∷ ws) e =
    let rest = length_within slots ws (and_both (fits s.limit w) _ e).1 in omega (arith, rest)

-- what is asked by plain words that are these
make_by : (os : Options) (ws : List Text) (a : Text) (n : ℕ) → ws ≡ a ∷ [] → number_in a ≡ Some n → make_asked ws os ≡ Some (asks_for.make n)
make_by os ws a n is read = rw (is, read) refl

soak_by : (os : Options) (ws : List Text) (a : Text) (n : ℕ) → ws ≡ a ∷ [] → number_in a ≡ Some n
    → soak_asked ws os ≡ Some (asks_for.soak n (workers_in os))
soak_by os ws a n is read = rw (is, read) refl

trees_by : (os : Options) (ws : List Text) (a b c : Text) (n m : ℕ) → ws ≡ a ∷ b ∷ c ∷ [] → number_in b ≡ Some n → number_in c ≡ Some m
    → trees_asked ws os ≡ Some (asks_for.trees a n m (workers_in os))
trees_by os ws a b c n m is first last = rw (is, first, last) refl

unrank_by : (os : Options) (ws : List Text) (a b : Text) (n : ℕ) → ws ≡ a ∷ b ∷ [] → number_in b ≡ Some n
    → unrank_asked ws os ≡ Some (asks_for.unrank a n)
unrank_by os ws a b n is read = rw (is, read) refl

split_by : (os : Options) (ws : List Text) (a b c : Text) (n m : ℕ) → ws ≡ a ∷ b ∷ c ∷ [] → number_in b ≡ Some n → number_in c ≡ Some m
    → split_asked ws os ≡ Some (asks_for.split a n m (workers_in os))
split_by os ws a b c n m is first last = rw (is, first, last) refl

sum_within : (given : List (Text × Text)) → Fit sum_options given → (a : Text)
    → IsSumWithin (record { file = a; workers = workers_in (read_from given); budget = budget_in (read_from given); stop_file = value_named (codes "stop-file") given })
sum_within given fit a =
    let (least, most) = number_or_fits sum_options given (codes "budget") 1 1099511627776 1099511627776 fit refl (omega arith) (omega arith) in
    record { workers = workers_fit sum_options given fit refl; least_budget = least; most_budget = omega (arith, most) }

run_within : AsksWithin table.run
run_within ws given request e fit asked =
    let (a, is, _) = one_word table.file ws e in
    let r : run_asked ws (read_from given) ≡ Some (asks_for.run _) = ap (λ vs. run_asked vs (read_from given)) is in
    subst IsWithin (same_Some _ request (sym r ∙ asked)) (sum_within given fit a)

resume_within : AsksWithin table.resume
resume_within ws given request e fit asked =
    let (a, is, _) = one_word table.file ws e in
    let r : resume_asked ws (read_from given) ≡ Some (asks_for.resume _) = ap (λ vs. resume_asked vs (read_from given)) is in
    subst IsWithin (same_Some _ request (sym r ∙ asked)) (sum_within given fit a)

make_within : AsksWithin table.make
make_within ws given request e fit asked =
    let (a, is, fine) = one_word (table.number (codes "N") 0 4294967295) ws e in
    let (n, read, least, most) = number_within 0 4294967295 a fine in
    let r : make_asked ws (read_from given) ≡ Some (asks_for.make n) = make_by (read_from given) ws a n is read in
    subst IsWithin (same_Some _ request (sym r ∙ asked)) (omega (arith, most))

soak_within : AsksWithin table.soak
soak_within ws given request e fit asked =
    let (a, is, fine) = one_word (table.number (codes "N") 0 4294967295) ws e in
    let (n, read, least, most) = number_within 0 4294967295 a fine in
    let r : soak_asked ws (read_from given) ≡ Some (asks_for.soak n (workers_in (read_from given))) = soak_by (read_from given) ws a n is read in
    subst IsWithin (same_Some _ request (sym r ∙ asked)) (omega (arith, most), workers_fit (table.workers ∷ []) given fit refl)

trees_within : AsksWithin table.trees
trees_within ws given request e fit asked =
    let (a, b, c, is, named, low, high) = three_words table.file (table.number (codes "LO") 0 1099511627776) (table.number (codes "HI") 0 1099511627776) ws e in
    let (n, first, least, most) = number_within 0 1099511627776 b low in
    let (m, last, lower, upper) = number_within 0 1099511627776 c high in
    let r : trees_asked ws (read_from given) ≡ Some (asks_for.trees a n m (workers_in (read_from given))) =
    trees_by (read_from given) ws a b c n m is first last in
    subst IsWithin (same_Some _ request (sym r ∙ asked)) (omega (arith, most), omega (arith, upper), workers_fit (table.workers ∷ []) given fit refl)

rank_within : AsksWithin table.rank
rank_within ws given request e fit asked =
    let (a, b, is, named, fine) = two_words table.file (table.text (codes "TEXT")) ws e in
    let r : rank_asked ws (read_from given) ≡ Some (asks_for.rank a b) = ap (λ vs. rank_asked vs (read_from given)) is in
    subst IsWithin (same_Some _ request (sym r ∙ asked)) tt

unrank_within : AsksWithin table.unrank
unrank_within ws given request e fit asked =
    let (a, b, is, named, fine) = two_words table.file (table.number (codes "K") 0 1099511627776) ws e in
    let (n, read, least, most) = number_within 0 1099511627776 b fine in
    let r : unrank_asked ws (read_from given) ≡ Some (asks_for.unrank a n) = unrank_by (read_from given) ws a b n is read in
    subst IsWithin (same_Some _ request (sym r ∙ asked)) (omega (arith, most))

split_within : AsksWithin table.split
split_within ws given request e fit asked =
    let (a, b, c, is, named, parts, part) = three_words table.file (table.number (codes "K") 1 64) (table.number (codes "I") 0 63) ws e in
    let (n, first, least, most) = number_within 1 64 b parts in
    let (m, last, lower, upper) = number_within 0 63 c part in
    let r : split_asked ws (read_from given) ≡ Some (asks_for.split a n m (workers_in (read_from given))) =
    split_by (read_from given) ws a b c n m is first last in
    subst IsWithin (same_Some _ request (sym r ∙ asked)) (least, most, omega (arith, upper), workers_fit (table.workers ∷ []) given fit refl)

merge_within : AsksWithin table.merge
merge_within ws given request e fit asked =
    let (some, fine) = and_both (nat_le 1 (length ws)) _ e in
    subst IsWithin (same_Some _ request asked) (leb-true 1 (length ws) some, length_within (table.files 64) ws fine)

batch_within : AsksWithin table.batch
batch_within ws given request e fit asked =
    let (a, is, _) = one_word (table.text (codes "LIST")) ws e in
    let r : batch_asked ws (read_from given) ≡ Some (asks_for.batch a (workers_in (read_from given))) = ap (λ vs. batch_asked vs (read_from given)) is in
    subst IsWithin (same_Some _ request (sym r ∙ asked)) (workers_fit (table.workers ∷ []) given fit refl)

cross_within : AsksWithin table.cross
cross_within ws given request e fit asked =
    let (some, fine) = and_both (nat_le 2 (length ws)) _ e in
    subst IsWithin (same_Some _ request asked) (leb-true 2 (length ws) some, length_within (table.files 8) ws fine, workers_fit (table.workers ∷ []) given fit refl)

-- ---- of all rules

abbrev Each : List CommandRule → Type 0
Each [] = Unit
Each (r ∷ rs) = AsksWithin r × Each rs

pick : (rs : List CommandRule) (r : CommandRule) → Each rs → Contains rs r → AsksWithin r
pick [] r each (k, lt, is) = absurd (omega arith)
pick (x ∷ rs) r each (zero, lt, is) = subst AsksWithin is each.0
pick (x ∷ rs) r each (suc k, lt, is) = pick rs r each.1 (k, omega arith, is)

each : (c : Commands) → Each (rules_of c)
each commands.Built = (
  run_within,
  (resume_within, (make_within, (soak_within, (trees_within, (rank_within, (unrank_within, tt)))))),
)
each commands.All = (
  run_within,
  (
    resume_within,
    (
      make_within,
      (
        soak_within,
        (
          trees_within,
          (
            rank_within,
            (
              unrank_within,
              (split_within, (merge_within, (batch_within, (cross_within, tt)))),
            ),
          ),
        ),
      ),
    ),
  ),
)

pub asked_within : (c : Commands) (words : List Text) (request : Request) → Asks c words request → IsWithin request
asked_within c words request a =
    let (plains, options) = and_both (are_plains a.rule.usage (plains_in a.items)) (are_options a.rule.usage (options_in a.items)) a.is_use.allowed in
    pick (rules_of c) a.rule (each c) a.known (plains_in a.items) (options_in a.items) request plains
    (and_both (list_all (option_fits a.rule.usage.options) (options_in a.items)) _ options).0 a.asked
