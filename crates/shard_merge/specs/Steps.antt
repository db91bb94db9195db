-- Steps of which the first that fails is the answer.
use Rattle.std.specs.Prelude.{◌≡◌, ◌≢◌, Bool, Result, Ok, Err, if◌then◌else◌}
use Rattle.checkpoint.specs.declared.error.CheckpointError.{CheckpointError}
use Rattle.checkpoint.specs.declared.error.CheckpointError.TheVariants as states
use Rattle.shard_merge.specs.declared.shard_error.ShardError.{ShardError}
use Rattle.shard_merge.specs.declared.shard_error.ShardError.TheVariants.{NoMemory, TooLong, NotShard, Damaged, BadVersion, BadBody, ProblemRefused, RangeRefused, LineCount, ResidueCount, ResidueRefused}

-- two steps, of which the second uses what the first gave
infixl 10 ◌>>=◌
abbrev pub ◌>>=◌ : {A B : Type 0} → Result A ShardError → (A → Result B ShardError) → Result B ShardError
(Ok x) >>= f = f x
(Err e) >>= f = Err e

-- a rule that is kept, or else this refusal
abbrev pub keep : Bool → ShardError → Result (Unit {0}) ShardError
keep holds refusal = if holds then Ok tt else Err refusal

-- what a call answered, seen by a view, is this, want of memory aside
abbrev pub Gives : {X Y : Type 0} → (X → Y) → Result X ShardError → Result Y ShardError → Type 0
Gives view (Ok x) read = read ≡ Ok (view x)
Gives view (Err e) read = e ≢ NoMemory → read ≡ Err e

-- a fault of a piece that the texts of states and of shards share, as one of a shard
abbrev pub shard_error : CheckpointError → ShardError
shard_error states.NoMemory = NoMemory
shard_error states.TooLong = TooLong
shard_error states.NotCheckpoint = NotShard
shard_error (states.Damaged kept computed) = Damaged kept computed
shard_error (states.BadVersion version) = BadVersion version
shard_error states.BadBody = BadBody
shard_error (states.ProblemRefused why) = ProblemRefused why
shard_error (states.NextTooLarge next count) = RangeRefused 0 next count
shard_error (states.LineCount found wanted) = LineCount found wanted
shard_error (states.ResidueCount found wanted) = ResidueCount found wanted
shard_error (states.ResidueRefused place) = ResidueRefused place

-- what was read of such a piece
abbrev pub of_shard : {A : Type 0} → Result A CheckpointError → Result A ShardError
of_shard (Ok x) = Ok x
of_shard (Err e) = Err (shard_error e)
