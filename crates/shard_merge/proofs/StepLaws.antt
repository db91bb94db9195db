-- Steps that may fail: what a whole of them gave, its first part gave, or what came after.
use Rattle.std.proofs.Common.{◌≡◌, Bool, true, false, Option, Some, None, Result, Ok, Err, refl, ◌⊎◌, inl, inr}
use Rattle.std.specs.Prelude.{ok_or}
use Rattle.checkpoint.specs.declared.error.CheckpointError.{CheckpointError}
use Rattle.shard_merge.specs.Steps.{◌>>=◌, keep, shard_error, of_shard}
use Rattle.shard_merge.specs.declared.shard_error.ShardError.{ShardError}

pub same_ok : {A : Type 0} (x y : A) → ◌≡◌ {A = Result A ShardError} (Ok x) (Ok y) → x ≡ y
same_ok x y h = cc

pub same_err : {A : Type 0} (d e : ShardError) → ◌≡◌ {A = Result A ShardError} (Err d) (Err e) → d ≡ e
same_err d e h = cc

pub bind_ok : {A B : Type 0} (r : Result A ShardError) (f : A → Result B ShardError) (y : B)
    → (r >>= f) ≡ Ok y → (x : A) × (r ≡ Ok x) × (f x ≡ Ok y)
bind_ok (Ok x) f y h = (x, refl, h)
bind_ok (Err e) f y h = absurd cc

pub bind_err : {A B : Type 0} (r : Result A ShardError) (f : A → Result B ShardError) (e : ShardError)
    → (r >>= f) ≡ Err e → (r ≡ Err e) ⊎ ((x : A) × (r ≡ Ok x) × (f x ≡ Err e))
bind_err (Ok x) f e h = inr (x, refl, h)
bind_err (Err d) f e h = inl cc

pub ok_or_ok : {A : Type 0} (o : Option A) (e : ShardError) (x : A) → ok_or o e ≡ Ok x → o ≡ Some x
ok_or_ok None e x h = absurd cc
ok_or_ok (Some y) e x h = cc

pub ok_or_err : {A : Type 0} (o : Option A) (e d : ShardError) → ok_or o e ≡ Err d → (o ≡ None) × (e ≡ d)
ok_or_err None e d h = (refl, cc)
ok_or_err (Some y) e d h = absurd cc

-- a rule that did not fail
pub keep_ok : {A : Type 0} (b : Bool) (e : ShardError) (next : Result A ShardError) (x : A)
    → (keep b e >>= (λ _. next)) ≡ Ok x → (b ≡ true) × (next ≡ Ok x)
keep_ok true e next x h = (refl, h)
keep_ok false e next x h = absurd cc

-- the fault of a rule, or of what comes after it
pub keep_err : {A : Type 0} (b : Bool) (e d : ShardError) (next : Result A ShardError)
    → (keep b e >>= (λ _. next)) ≡ Err d → ((b ≡ false) × (e ≡ d)) ⊎ ((b ≡ true) × (next ≡ Err d))
keep_err true e d next h = inr (refl, h)
keep_err false e d next h = inl (refl, cc)

-- what a shared piece gave
pub of_shard_ok : {A : Type 0} (r : Result A CheckpointError) (x : A) → of_shard r ≡ Ok x → r ≡ Ok x
of_shard_ok (Ok y) x h = cc
of_shard_ok (Err e) x h = absurd cc

pub of_shard_err : {A : Type 0} (r : Result A CheckpointError) (d : ShardError) → of_shard r ≡ Err d
    → (e : CheckpointError) × (r ≡ Err e) × (shard_error e ≡ d)
of_shard_err (Ok y) d h = absurd cc
of_shard_err (Err e) d h = (e, refl, cc)
