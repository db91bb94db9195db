-- What the steps of reading give. These serve the proofs alone: what the text of a shard is, and when a text is refused,
-- is said in Texts and Refusals, and the contract of `read` speaks of those.
use Rattle.std.specs.Prelude.{ℕ, List, length, codes, Bool, ◌&&◌, ◌==◌, nat_lt, nat_le, bytes_eq, Option, option_map, ok_or, Result, Ok, Err, if◌then◌else◌}
use Rattle.std.specs.List.{concat}
use Rattle.sha2.specs.Sha256.{sha256}
use Rattle.problem.specs.Rules.{ProblemView}
use Rattle.problem.specs.Sums.{count_of}
use Rattle.problem_toml.specs.Reading.{reading}
use Rattle.problem_toml.specs.declared.error.ProblemError.{ProblemError}
use Rattle.checkpoint.specs.Readers.{and_then, after_word, decimal_at, number_line_at, unsealed_at, source_at, rows_at, counts_fit, residues_fit, shown_count}
use Rattle.shard_merge.specs.Shards.{ShardView}
use Rattle.shard_merge.specs.Steps.{◌>>=◌, keep, of_shard}
use Rattle.shard_merge.specs.Texts.{Contents}
use Rattle.shard_merge.specs.declared.shard_error.ShardError.{ShardError}
use Rattle.shard_merge.specs.declared.shard_error.ShardError.TheVariants.{TooLong, NotShard, Damaged, BadVersion, BadBody, ProblemRefused, RangeRefused, LineCount}

-- the first number and the end of the line of a range, and what follows the line
unfoldable pub range_at : List ℕ → Option ((ℕ × ℕ) × List ℕ)
range_at text = and_then (after_word (codes "range ") text) (λ rest. and_then (decimal_at rest) (λ x.
    option_map (λ y. ((x.0, y.0), y.1)) (number_line_at (codes " ") x.1)))

unfoldable pub contents_at : List ℕ → Result Contents ShardError
contents_at text = do
  source ← ok_or (source_at text) BadBody
  range ← ok_or (range_at source.1) BadBody
  rows ← of_shard (rows_at range.1)
  if length rows.0 == 0 then Err BadBody
      else Ok (record { source = source.0; first = range.0.0; end = range.0.1; rows = rows.0 })

unfoldable pub sound_at : List ℕ → List ℕ → ℕ → List ℕ → Result Contents ShardError
sound_at kept body version rest = do
  _ ← keep (bytes_eq kept (sha256 body)) (Damaged kept (sha256 body))
  _ ← keep (version == 1) (BadVersion version)
  contents_at rest

-- what a text writes
unfoldable pub written_at : List ℕ → Result Contents ShardError
written_at text = do
  sealed ← ok_or (unsealed_at text) NotShard
  first ← ok_or (number_line_at (codes "locus-shard ") sealed.0) NotShard
  sound_at sealed.1 sealed.0 first.0 first.1

-- ---- against the problem

abbrev pub problem_or_refusal : Result ProblemView ProblemError → Result ProblemView ShardError
problem_or_refusal (Ok p) = Ok p
problem_or_refusal (Err why) = Err (ProblemRefused why)

unfoldable pub shard_of : Contents → Result ShardView ShardError
shard_of c = do
  p ← problem_or_refusal (reading c.source)
  _ ← keep (nat_lt c.first c.end && nat_le c.end (count_of p)) (RangeRefused c.first c.end (count_of p))
  _ ← keep (length c.rows == length p.integrals) (LineCount (shown_count (length c.rows)) (length p.integrals))
  _ ← of_shard (counts_fit (length p.moduli) c.rows)
  _ ← of_shard (residues_fit p.moduli 0 (concat c.rows))
  Ok (record { source = c.source; problem = p; first = c.first; end = c.end; residues = concat c.rows })

-- ---- the whole

unfoldable pub short_reading : List ℕ → Result ShardView ShardError
short_reading text = do
  c ← written_at text
  shard_of c

unfoldable pub shard_reading : List ℕ → Result ShardView ShardError
shard_reading text = if nat_lt 1052672 (length text) then Err TooLong else short_reading text
