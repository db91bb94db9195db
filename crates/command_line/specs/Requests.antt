-- What a command asks for, by its positional arguments and its options.
use Rattle.std.specs.Prelude.{ℕ, List, [], ◌∷◌, map, Option, Some, None, option_map, option_and_then, unwrap_or, codes}
use Rattle.clap.specs.Walk.{Text}
use Rattle.command_line.specs.declared.command.Command.{Command}
use Rattle.command_line.specs.declared.command.Command.TheVariants as command
use Rattle.command_line.specs.declared.command.RunRequest.{RunRequest}
use Rattle.command_words.specs.Words.{number_in}

-- the sum of a file: by how many workers, for at most how many trees, and at the presence of which file it pauses
pub record Sum : Type 0 where
  pub file : Text
  pub workers : ℕ
  pub budget : ℕ
  pub stop_file : Option Text

pub data Request : Type 0 where
  run : Sum → Request
  resume : Sum → Request
  make : (number : ℕ) → Request
  soak : (number workers : ℕ) → Request
  trees : (file : Text) (low high workers : ℕ) → Request
  rank : (file text : Text) → Request
  unrank : (file : Text) (number : ℕ) → Request
  split : (file : Text) (parts part workers : ℕ) → Request
  merge : (files : List Text) → Request
  batch : (list : Text) (workers : ℕ) → Request
  cross : (files : List Text) (workers : ℕ) → Request

-- the requests as the program's own types have them
abbrev pub sum_of_request : RunRequest → Sum
sum_of_request r = record {
  file = r.file.now;
  workers = r.workers;
  budget = r.budget;
  stop_file = option_map (λ name. name.now) r.stop_file;
}

abbrev pub request_of : Command → Request
request_of (command.Run r) = run (sum_of_request r)
request_of (command.Resume r) = resume (sum_of_request r)
request_of (command.Make number) = make number
request_of (command.Soak number workers) = soak number workers
request_of (command.Trees file low high workers) = trees file.now low high workers
request_of (command.Rank file text) = rank file.now text.now
request_of (command.Unrank file number) = unrank file.now number
request_of (command.Split file parts part workers) = split file.now parts part workers
request_of (command.Merge files) = merge (map (λ name. name.now) files.items)
request_of (command.Batch list workers) = batch list.now workers
request_of (command.Cross files workers) = cross (map (λ name. name.now) files.items) workers

-- ---- the values of options

-- the value of the option of each name, if it was given
abbrev pub Options : Type 0
Options = Text → Option Text

-- the number of the option of this name, or another if it was not given
abbrev pub number_or : ℕ → Text → Options → ℕ
number_or other name options = unwrap_or (option_and_then number_in (options name)) other

-- one worker, if it is not said
abbrev pub workers_in : Options → ℕ
workers_in = number_or 1 (codes "workers")

-- as many trees as a problem may have (2^40), if it is not said
abbrev pub budget_in : Options → ℕ
budget_in = number_or 1099511627776 (codes "budget")

-- ---- what is asked

abbrev pub sum_asked : List Text → Options → Option Sum
sum_asked (file ∷ []) options = Some (record {
  file = file;
  workers = workers_in options;
  budget = budget_in options;
  stop_file = options (codes "stop-file");
})
sum_asked _ options = None

abbrev pub run_asked : List Text → Options → Option Request
run_asked plains options = option_map run (sum_asked plains options)

abbrev pub resume_asked : List Text → Options → Option Request
resume_asked plains options = option_map resume (sum_asked plains options)

abbrev pub make_asked : List Text → Options → Option Request
make_asked (n ∷ []) options = option_map make (number_in n)
make_asked _ options = None

abbrev pub soak_asked : List Text → Options → Option Request
soak_asked (n ∷ []) options = option_map (λ number. soak number (workers_in options)) (number_in n)
soak_asked _ options = None

abbrev pub trees_asked : List Text → Options → Option Request
trees_asked (file ∷ lo ∷ hi ∷ []) options =
    option_and_then (λ low. option_map (λ high. trees file low high (workers_in options)) (number_in hi)) (number_in lo)
trees_asked _ options = None

abbrev pub rank_asked : List Text → Options → Option Request
rank_asked (file ∷ text ∷ []) options = Some (rank file text)
rank_asked _ options = None

abbrev pub unrank_asked : List Text → Options → Option Request
unrank_asked (file ∷ k ∷ []) options = option_map (unrank file) (number_in k)
unrank_asked _ options = None

abbrev pub split_asked : List Text → Options → Option Request
split_asked (file ∷ k ∷ i ∷ []) options =
    option_and_then (λ parts. option_map (λ part. split file parts part (workers_in options)) (number_in i))
    (number_in k)
split_asked _ options = None

abbrev pub merge_asked : List Text → Options → Option Request
merge_asked files options = Some (merge files)

abbrev pub batch_asked : List Text → Options → Option Request
batch_asked (list ∷ []) options = Some (batch list (workers_in options))
batch_asked _ options = None

abbrev pub cross_asked : List Text → Options → Option Request
cross_asked files options = Some (cross files (workers_in options))
