-- Steps of which the first that fails is the answer.
use Rattle.std.specs.Prelude.{◌≡◌, ◌≢◌, Bool, Result, Ok, Err, if◌then◌else◌}
use Rattle.checkpoint.specs.declared.error.CheckpointError.{CheckpointError}
use Rattle.checkpoint.specs.declared.error.CheckpointError.TheVariants.{NoMemory}

-- two steps, of which the second uses what the first gave
infixl 10 ◌>>=◌
abbrev pub ◌>>=◌ : {A B : Type 0} → Result A CheckpointError → (A → Result B CheckpointError) → Result B CheckpointError
(Ok x) >>= f = f x
(Err e) >>= f = Err e

-- a rule that is kept, or else this refusal
abbrev pub keep : Bool → CheckpointError → Result (Unit {0}) CheckpointError
keep holds refusal = if holds then Ok tt else Err refusal

-- what a call answered, seen by a view, is this, want of memory aside
abbrev pub Gives : {X Y : Type 0} → (X → Y) → Result X CheckpointError → Result Y CheckpointError → Type 0
Gives view (Ok x) read = read ≡ Ok (view x)
Gives view (Err e) read = e ≢ NoMemory → read ≡ Err e

-- the same of a call that takes no memory
abbrev pub GivesSurely : {X Y : Type 0} → (X → Y) → Result X CheckpointError → Result Y CheckpointError → Type 0
GivesSurely view (Ok x) read = read ≡ Ok (view x)
GivesSurely view (Err e) read = read ≡ Err e
