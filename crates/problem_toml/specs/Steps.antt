-- Rules in their order, of which the first that is broken is the refusal.
use Rattle.std.specs.Prelude.{◌≡◌, ◌≢◌, Bool, Result, Ok, Err, if◌then◌else◌}
use Rattle.problem_toml.specs.declared.error.ProblemError.{ProblemError}
use Rattle.problem_toml.specs.declared.error.ProblemError.TheVariants.{NoMemory}

-- the first refusal of two steps, of which the second uses what the first gave
infixl 10 ◌>>=◌
abbrev pub ◌>>=◌ : {A B : Type 0} → Result A ProblemError → (A → Result B ProblemError) → Result B ProblemError
(Ok x) >>= f = f x
(Err e) >>= f = Err e

-- a rule that is kept, or else this refusal
abbrev pub keep : Bool → ProblemError → Result (Unit {0}) ProblemError
keep holds refusal = if holds then Ok tt else Err refusal

-- what a call answered, seen by a view, is what the reading gives, want of memory aside
abbrev pub Gives : {X Y : Type 0} → (X → Y) → Result X ProblemError → Result Y ProblemError → Type 0
Gives view (Ok x) read = read ≡ Ok (view x)
Gives view (Err e) read = e ≢ NoMemory → read ≡ Err e

-- the same of a call that takes no memory
abbrev pub GivesSurely : {X Y : Type 0} → (X → Y) → Result X ProblemError → Result Y ProblemError → Type 0
GivesSurely view (Ok x) read = read ≡ Ok (view x)
GivesSurely view (Err e) read = read ≡ Err e
