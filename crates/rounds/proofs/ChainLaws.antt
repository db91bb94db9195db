-- What a chain of pauses comes to.
use Rattle.std.proofs.Common.{ℕ, ◌≤◌, List, arith}
use Rattle.localisation.specs.Agreement.{NoneBad}
use Rattle.problem.specs.Rules.{ProblemView, KeepsRules}
use Rattle.problem.specs.Sums.{count_of, is_bad_of}
use Rattle.rounds.specs.Rounds.{budget_end, reached}
use Rattle.rounds.specs.Outcomes.{SumView, IsSummed, IsPaused, IsOutcome}
use Rattle.rounds.specs.Chains.{IsChain, IsEndOfChain}
use Rattle.rounds.specs.Chains.IsChain.{begun, paused}
use Rattle.rounds.specs.declared.progress.Outcome.{Outcome}
use Rattle.rounds.specs.declared.progress.Outcome.TheVariants.{Done, Paused, NoInverse}
use Rattle.rounds.proofs.Summed.{nothing_summed, summed_more}
use Rattle.localisation.proofs.AllNumbers.{none_append}

abbrev at_state : ProblemView → ℕ → List ℕ → SumView
at_state p next residues = record { problem = p; next = next; residues = residues }

-- the numbers from the first on were summed, each once
record IsLed (p : ProblemView) (first : ℕ) (begin : List ℕ) (next : ℕ) (residues : List ℕ) : Type 0 where
  order : first ≤ next
  summed : IsSummed (at_state p first begin) next residues

go_on : (p : ProblemView) (first : ℕ) (begin : List ℕ) (next later : ℕ) (residues more : List ℕ) → KeepsRules p
    → IsLed p first begin next residues
    → next ≤ later → IsSummed (at_state p next residues) later more → IsSummed (at_state p first begin) later more
go_on p first begin next later residues more rules led order summed =
    summed_more
    (at_state p first begin) next later residues more rules led.order order led.summed summed.none_bad summed.are_residues summed.grew

is_later : (s : SumView) (budget k later : ℕ) (more : List ℕ) → IsPaused s budget k later more → s.next ≤ later
is_later s budget k later more h =
    let some = h.some in
    let first = h.rounds 0 some in
    let at = h.at in
    omega arith

is_led : (p : ProblemView) (first : ℕ) (begin : List ℕ) (next : ℕ) (residues : List ℕ) → KeepsRules p
    → IsChain p first begin next residues
    → IsLed p first begin next residues
is_led p first begin next residues rules (begun most are) = record { order = omega arith; summed = nothing_summed (at_state p first begin) rules are }
is_led p first begin last ended rules (paused next budget k later residues more chain h) =
    let led = is_led p first begin next residues rules chain in
    let order = led.order in
    let further = is_later (at_state p next residues) budget k later more h in
    record { order = omega arith; summed = go_on p first begin next later residues more rules led further h.summed }

-- what one more call comes to, from where the chain began
pub ends_chain : (p : ProblemView) (first : ℕ) (begin : List ℕ) (next : ℕ) (residues : List ℕ) (budget k : ℕ) (o : Outcome)
    → KeepsRules p
    → next ≤ count_of p → IsChain p first begin next residues → IsOutcome (at_state p next residues) budget k o
    → IsEndOfChain (at_state p first begin) o
ends_chain p first begin next residues budget k (Done more) rules most chain h =
    go_on p first begin next (count_of p) residues more rules
    (is_led p first begin next residues rules chain) most h.summed
ends_chain p first begin next residues budget k (Paused later more) rules most chain h =
    go_on p first begin next later residues more rules (is_led p first begin next residues rules chain)
    (is_later (at_state p next residues) budget k later more h) h.summed
ends_chain p first begin next residues budget k (NoInverse number modulus) rules most chain h =
    let led = is_led p first begin next residues rules chain in
    let e = budget_end (count_of p) next budget in
    let start = reached next e h.round in
    let order = led.order in
    let from = h.least.from in
    let below = h.least.below in
    let none : NoneBad (is_bad_of p) first start =
    none_append (is_bad_of p) first next start led.summed.none_bad h.earlier in
    let after : next ≤ start = omega arith in (
      record {
        from = omega arith;
        below = omega arith;
        is_bad = h.least.is_bad;
        least = λ j a b t. none_append (is_bad_of p) first start number none h.least.least j a b t;
      },
      h.first,
    )
