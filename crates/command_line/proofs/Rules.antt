-- Each command asks for something, whatever it may be given, and is found by its name.
use Rattle.std.proofs.Common.{◌≡◌, zero, suc, List, [], ◌∷◌, Some, Bool, true, false, ◌&&◌, refl, subst, arith, codes, length}
use Rattle.std.proofs.lemmas.Bool.{false≢true}
use Rattle.std.specs.Prelude.{nat_le}
use Rattle.std.specs.List.{Contains}
use Rattle.clap.specs.Walk.{Text}
use Rattle.command_words.specs.Usages.{Slot, fits}
use Rattle.command_words.specs.Words.{are_plains, plains_fit}
use Rattle.command_words.proofs.Consequences.{number_within}
use Rattle.command_line.specs.declared.table.Commands.{Commands}
use Rattle.command_line.specs.declared.table.Commands.TheVariants as commands
use Rattle.command_line.specs.Requests.{Options, Request}
use Rattle.command_line.specs.Requests as request
use Rattle.command_line.specs.Given.{request_named}
use Rattle.command_line.specs.Table.{CommandRule, all_commands, rules_of}
use Rattle.command_line.specs.Table as table

pub and_both : (a b : Bool) → (a && b) ≡ true → (a ≡ true) × (b ≡ true)
and_both true b e = (refl, e)
and_both false b e = absurd (false≢true e)

-- ---- as many positional arguments as there are slots

pub one_word : (s : Slot) (ws : List Text) → (nat_le 1 (length ws) && plains_fit (s ∷ []) ws) ≡ true
    → (a : Text) × (ws ≡ a ∷ []) × (fits s.limit a ≡ true)
one_word s [] e = absurd (false≢true e)
one_word s (a ∷ []) e = (a, refl, (and_both (fits s.limit a) _ e).0)
one_word s (a ∷ b ∷ ws) e =
    let fit = (and_both (nat_le 1 (length (a ∷ b ∷ ws))) _ e).1 in
    absurd (false≢true (and_both (fits s.limit a) _ fit).1)

pub two_words : (s t : Slot) (ws : List Text) → (nat_le 2 (length ws) && plains_fit (s ∷ t ∷ []) ws) ≡ true
    → (a b : Text) × (ws ≡ a ∷ b ∷ []) × (fits s.limit a ≡ true) × (fits t.limit b ≡ true)
two_words s t [] e = absurd (false≢true e)
two_words s t (a ∷ []) e = absurd (false≢true e)
two_words s t (a ∷ b ∷ []) e =
    let (first, rest) = and_both (fits s.limit a) _ e in
    (a, b, refl, first, (and_both (fits t.limit b) _ rest).0)
two_words s t (a ∷ b ∷ c ∷ ws) e =
    let fit = (and_both (nat_le 2 (length (a ∷ b ∷ c ∷ ws))) _ e).1 in
    let (first, rest) = and_both (fits s.limit a) _ fit in
    absurd (false≢true (and_both (fits t.limit b) _ rest).1)

pub three_words : (s t u : Slot) (ws : List Text) → (nat_le 3 (length ws) && plains_fit (s ∷ t ∷ u ∷ []) ws) ≡ true
    → (a b c : Text) × (ws ≡ a ∷ b ∷ c ∷ []) × (fits s.limit a ≡ true) × (fits t.limit b ≡ true) × (fits u.limit c ≡ true)
three_words s t u [] e = absurd (false≢true e)
three_words s t u (a ∷ []) e = absurd (false≢true e)
three_words s t u (a ∷ b ∷ []) e = absurd (false≢true e)
three_words s t u (a ∷ b ∷ c ∷ []) e =
    let (first, rest) = and_both (fits s.limit a) _ e in
    let (second, last) = and_both (fits t.limit b) _ rest in
    (a, b, c, refl, first, second, (and_both (fits u.limit c) _ last).0)
three_words s t u (a ∷ b ∷ c ∷ d ∷ ws) e =
    let fit = (and_both (nat_le 3 (length (a ∷ b ∷ c ∷ d ∷ ws))) _ e).1 in
    let (first, rest) = and_both (fits s.limit a) _ fit in
    let (second, last) = and_both (fits t.limit b) _ rest in
    absurd (false≢true (and_both (fits u.limit c) _ last).1)

-- ---- each command asks for something

abbrev pub AsksSome : CommandRule → Type 0
AsksSome r =
    (ws : List Text) (os : Options) → are_plains r.usage ws ≡ true → (request : Request) ×
    (r.asked ws os ≡ Some request)

-- and is found by its name
abbrev pub IsFound : CommandRule → Type 0
IsFound r = (ws : List Text) (os : Options) → request_named r.usage.name ws os ≡ r.asked ws os

run_some : (name : Text) (options : List Slot)
    → AsksSome (record { usage = table.usage name (table.file ∷ []) 1 options; asked = request.run_asked })
run_some name options ws os e = let (a, is, fit) = one_word table.file ws e in rw is (_, refl)

resume_some : AsksSome table.resume
resume_some ws os e = let (a, is, fit) = one_word table.file ws e in rw is (_, refl)

make_some : AsksSome table.make
make_some ws os e =
    let (a, is, fit) = one_word (table.number (codes "N") 0 4294967295) ws e in
    let (n, read, least, most) = number_within 0 4294967295 a fit in
    rw (is, read) (_, refl)

soak_some : AsksSome table.soak
soak_some ws os e =
    let (a, is, fit) = one_word (table.number (codes "N") 0 4294967295) ws e in
    let (n, read, least, most) = number_within 0 4294967295 a fit in
    rw (is, read) (_, refl)

trees_some : AsksSome table.trees
trees_some ws os e =
    let (a, b, c, is, named, low, high) =
    three_words table.file (table.number (codes "LO") 0 1099511627776)
    (table.number (codes "HI") 0 1099511627776) ws e in
    let (n, first, least, most) = number_within 0 1099511627776 b low in
    let (m, last, lower, upper) = number_within 0 1099511627776 c high in
    rw (is, first, last) (_, refl)

rank_some : AsksSome table.rank
rank_some ws os e =
    let (a, b, is, named, fit) = two_words table.file (table.text (codes "TEXT")) ws e in rw is (_, refl)

unrank_some : AsksSome table.unrank
unrank_some ws os e =
    let (a, b, is, named, fit) = two_words table.file (table.number (codes "K") 0 1099511627776) ws e in
    let (n, read, least, most) = number_within 0 1099511627776 b fit in
    rw (is, read) (_, refl)

split_some : AsksSome table.split
split_some ws os e =
    let (a, b, c, is, named, parts, part) =
    three_words table.file (table.number (codes "K") 1 64) (table.number (codes "I") 0 63) ws e in
    let (n, first, least, most) = number_within 1 64 b parts in
    let (m, last, lower, upper) = number_within 0 63 c part in
    rw (is, first, last) (_, refl)

merge_some : AsksSome table.merge
merge_some ws os e = (_, refl)

batch_some : AsksSome table.batch
batch_some ws os e = let (a, is, fit) = one_word (table.text (codes "LIST")) ws e in rw is (_, refl)

cross_some : AsksSome table.cross
cross_some ws os e = (_, refl)

-- ---- of all rules

abbrev IsAnswered : CommandRule → Type 0
IsAnswered r = AsksSome r × IsFound r

abbrev Each : List CommandRule → Type 0
Each [] = Unit
Each (r ∷ rs) = IsAnswered r × Each rs

pick : (rs : List CommandRule) (r : CommandRule) → Each rs → Contains rs r → IsAnswered r
pick [] r each (k, lt, is) = absurd (omega arith)
pick (x ∷ rs) r each (zero, lt, is) = subst IsAnswered is each.0
pick (x ∷ rs) r each (suc k, lt, is) = pick rs r each.1 (k, omega arith, is)

each : (c : Commands) → Each (rules_of c)
each commands.Built = (
  (run_some (codes "run") (table.workers ∷ table.budget ∷ table.stop_file ∷ []), λ ws os. refl),
  (
    (resume_some, λ ws os. refl),
    (
      (make_some, λ ws os. refl),
      (
        (soak_some, λ ws os. refl),
        ((trees_some, λ ws os. refl), ((rank_some, λ ws os. refl), ((unrank_some, λ ws os. refl), tt))),
      ),
    ),
  ),
)
each commands.All = (
  (run_some (codes "run") (table.workers ∷ table.budget ∷ table.stop_file ∷ []), λ ws os. refl),
  (
    (resume_some, λ ws os. refl),
    (
      (make_some, λ ws os. refl),
      (
        (soak_some, λ ws os. refl),
        (
          (trees_some, λ ws os. refl),
          (
            (rank_some, λ ws os. refl),
            (
              (unrank_some, λ ws os. refl),
              (
                (split_some, λ ws os. refl),
                (
                  (merge_some, λ ws os. refl),
                  (
                    (batch_some, λ ws os. refl),
                    ((cross_some, λ ws os. refl), tt),
                  ),
                ),
              ),
            ),
          ),
        ),
      ),
    ),
  ),
)

-- a command of the table asks for something, and that is what its name finds
pub answered : (c : Commands) (r : CommandRule) → Contains (rules_of c) r → AsksSome r × IsFound r
answered c r there = pick (rules_of c) r (each c) there
