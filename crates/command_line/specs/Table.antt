-- The commands of the program: how each is used, and what it asks for.
use Rattle.std.specs.Prelude.{ℕ, List, [], ◌∷◌, ◌++◌, Option, codes, decimal, map}
use Rattle.std.specs.List.{range_with_len}
use Rattle.clap.specs.Walk.{Text}
use Rattle.command_line.specs.declared.table.Commands.{Commands}
use Rattle.command_line.specs.declared.table.Commands.TheVariants as commands
use Rattle.command_line.specs.Requests.{Options, Request, batch_asked, cross_asked, make_asked, merge_asked}
use Rattle.command_line.specs.Requests.{rank_asked, resume_asked, run_asked, soak_asked, split_asked, trees_asked}
use Rattle.command_line.specs.Requests.{unrank_asked}
use Rattle.command_words.specs.declared.table.Limit.{Limit}
use Rattle.command_words.specs.declared.table.Limit.TheVariants as limit
use Rattle.command_words.specs.Usages.{Slot, Usage}

-- a command: how it is used, and what it asks for by its positional arguments and its options
pub record CommandRule : Type 0 where
  pub usage : Usage
  pub asked : List Text → Options → Option Request

-- ---- names of positional arguments and options

abbrev pub slot : Text → Limit → Slot
slot name l = record { name = name; limit = l }

abbrev pub text : Text → Slot
text name = slot name limit.Text

abbrev pub number : Text → ℕ → ℕ → Slot
number name low high = slot name (limit.Number low high)

abbrev pub file : Slot
file = text (codes "FILE")

-- names for up to n files
abbrev pub files : ℕ → List Slot
files n = map (λ k. text (codes "FILE" ++ decimal k)) (range_with_len 1 n)

abbrev pub workers : Slot
workers = number (codes "workers") 1 64

abbrev pub budget : Slot
budget = number (codes "budget") 1 1099511627776

abbrev pub stop_file : Slot
stop_file = text (codes "stop-file")

-- ---- commands

abbrev pub usage : Text → List Slot → ℕ → List Slot → Usage
usage name plains least options = record { name = name; plains = plains; least = least; options = options }

abbrev pub run : CommandRule
run = record { usage = usage (codes "run") (file ∷ []) 1 (workers ∷ budget ∷ stop_file ∷ []); asked = run_asked }

abbrev pub resume : CommandRule
resume = record {
  usage = usage (codes "resume") (file ∷ []) 1 (workers ∷ budget ∷ stop_file ∷ []);
  asked = resume_asked;
}

abbrev pub make : CommandRule
make = record { usage = usage (codes "make") (number (codes "N") 0 4294967295 ∷ []) 1 ([]); asked = make_asked }

abbrev pub soak : CommandRule
soak = record {
  usage = usage (codes "soak") (number (codes "N") 0 4294967295 ∷ []) 1 (workers ∷ []);
  asked = soak_asked;
}

abbrev pub trees : CommandRule
trees = record {
  usage = usage (codes "trees")
      (file ∷ number (codes "LO") 0 1099511627776 ∷ number (codes "HI") 0 1099511627776 ∷ []) 3 (workers ∷ []);
  asked = trees_asked;
}

abbrev pub rank : CommandRule
rank = record { usage = usage (codes "rank") (file ∷ text (codes "TEXT") ∷ []) 2 ([]); asked = rank_asked }

abbrev pub unrank : CommandRule
unrank = record {
  usage = usage (codes "unrank") (file ∷ number (codes "K") 0 1099511627776 ∷ []) 2 ([]);
  asked = unrank_asked;
}

abbrev pub split : CommandRule
split = record {
  usage = usage (codes "split") (file ∷ number (codes "K") 1 64 ∷ number (codes "I") 0 63 ∷ []) 3 (workers ∷ []);
  asked = split_asked;
}

abbrev pub merge : CommandRule
merge = record { usage = usage (codes "merge") (files 64) 1 ([]); asked = merge_asked }

abbrev pub batch : CommandRule
batch = record { usage = usage (codes "batch") (text (codes "LIST") ∷ []) 1 (workers ∷ []); asked = batch_asked }

abbrev pub cross : CommandRule
cross = record { usage = usage (codes "cross") (files 8) 2 (workers ∷ []); asked = cross_asked }

-- ---- tables

abbrev pub all_commands : List CommandRule
all_commands = run ∷ resume ∷ make ∷ soak ∷ trees ∷ rank ∷ unrank ∷ split ∷ merge ∷ batch ∷ cross ∷ []

abbrev pub rules_of : Commands → List CommandRule
rules_of commands.Built = run ∷ resume ∷ make ∷ soak ∷ trees ∷ rank ∷ unrank ∷ []
rules_of commands.All = all_commands

abbrev pub table_of_commands : Commands → List Usage
table_of_commands c = map (λ r. r.usage) (rules_of c)
