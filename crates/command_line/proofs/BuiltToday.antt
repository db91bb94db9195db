-- What the commands that are built today ask.
use Rattle.std.proofs.Common.{◌≡◌, ℕ, zero, suc, List, [], ◌∷◌, Option, Some, None, option_map, option_and_then, subst, arith}
use Rattle.std.proofs.lemmas.Option.{same_Some}
use Rattle.std.specs.List.{Contains}
use Rattle.clap.specs.Walk.{Text}
use Rattle.command_words.specs.Words.{number_in, plains_in}
use Rattle.command_line.specs.declared.table.Commands.TheVariants as commands
use Rattle.command_line.specs.Asked.{Asks, values_of}
use Rattle.command_line.specs.Limits.{IsBuilt}
use Rattle.command_line.specs.Requests.{Options, Request, run, resume, make, soak, trees, rank, unrank, sum_asked, workers_in}
use Rattle.command_line.specs.Table.{CommandRule, rules_of}
use Rattle.command_line.specs.Table as table

from_map : {A : Type 0} (f : A → Request) (o : Option A) (r : Request) → ((x : A) → IsBuilt (f x))
    → option_map f o ≡ Some r → IsBuilt r
from_map f None r h e = cc
from_map f (Some x) r h e = subst IsBuilt (same_Some (f x) r e) (h x)

abbrev AsksBuilt : CommandRule → Type 0
AsksBuilt rule = (ws : List Text) (os : Options) (r : Request) → rule.asked ws os ≡ Some r → IsBuilt r

run_built : AsksBuilt table.run
run_built ws os r e = from_map run (sum_asked ws os) r (λ s. tt) e

resume_built : AsksBuilt table.resume
resume_built ws os r e = from_map resume (sum_asked ws os) r (λ s. tt) e

make_built : AsksBuilt table.make
make_built [] os r e = cc
make_built (n ∷ []) os r e = from_map make (number_in n) r (λ s. tt) e
make_built (n ∷ m ∷ ws) os r e = cc

soak_built : AsksBuilt table.soak
soak_built [] os r e = cc
soak_built (n ∷ []) os r e = from_map (λ number. soak number (workers_in os)) (number_in n) r (λ s. tt) e
soak_built (n ∷ m ∷ ws) os r e = cc

trees_built : AsksBuilt table.trees
trees_built [] os r e = cc
trees_built (file ∷ []) os r e = cc
trees_built (file ∷ lo ∷ []) os r e = cc
trees_built (file ∷ lo ∷ hi ∷ []) os r e = by_low (number_in lo) e
  where
    by_low : (o : Option ℕ)
        → option_and_then (λ low. option_map (λ high. trees file low high (workers_in os)) (number_in hi)) o ≡ Some r → IsBuilt r
    by_low None e = cc
    by_low (Some low) e = from_map (λ high. trees file low high (workers_in os)) (number_in hi) r (λ high. tt) e
trees_built (file ∷ lo ∷ hi ∷ w ∷ ws) os r e = cc

rank_built : AsksBuilt table.rank
rank_built [] os r e = cc
rank_built (file ∷ []) os r e = cc
rank_built (file ∷ text ∷ []) os r e = subst IsBuilt (same_Some (rank file text) r e) tt
rank_built (file ∷ text ∷ w ∷ ws) os r e = cc

unrank_built : AsksBuilt table.unrank
unrank_built [] os r e = cc
unrank_built (file ∷ []) os r e = cc
unrank_built (file ∷ k ∷ []) os r e = from_map (unrank file) (number_in k) r (λ k. tt) e
unrank_built (file ∷ k ∷ w ∷ ws) os r e = cc

abbrev Each : List CommandRule → Type 0
Each [] = Unit
Each (r ∷ rs) = AsksBuilt r × Each rs

pick : (rs : List CommandRule) (r : CommandRule) → Each rs → Contains rs r → AsksBuilt r
pick [] r each (k, lt, is) = absurd (omega arith)
pick (x ∷ rs) r each (zero, lt, is) = subst AsksBuilt is each.0
pick (x ∷ rs) r each (suc k, lt, is) = pick rs r each.1 (k, omega arith, is)

pub built_request : (words : List Text) (request : Request) → Asks commands.Built words request → IsBuilt request
built_request words request a =
    pick (rules_of commands.Built) a.rule (run_built, (resume_built, (make_built, (soak_built, (trees_built, (rank_built, (unrank_built, tt))))))) a.known
    (plains_in a.items) (values_of a.items) request a.asked
