-- Why a call of the outside failed, by counts of faults.
use Rattle.std.specs.Prelude.{◌≡◌, ℕ, ◌+◌, ◌-◌, ◌^◌, ◌≤◌, min, List, Option, Some, Result, OnOk, OnErr}

-- the count is greater after the call, or stands at its last value
abbrev pub Rose : ℕ → ℕ → Type 0
Rose before now = min (before + 1) (2 ^ 64 - 1) ≤ now

-- the count does not fall, an error comes only if it rose, and Ok leaves it
pub record HasCause {T E : Type 0} (before now : ℕ) (result : Result T E) : Type 0 where
  pub later : before ≤ now
  pub failed : OnErr result (Rose before now)
  pub kept : OnOk result (now ≡ before)

-- the count rose, and the last name is this one
pub record RoseBy (before now : ℕ) (name : List ℕ) (last : Option (List ℕ)) : Type 0 where
  pub later : before ≤ now
  pub rose : Rose before now
  pub named : last ≡ Some name

-- the count and the last name are as before
pub record Stayed (before now : ℕ) (was last : Option (List ℕ)) : Type 0 where
  pub count : now ≡ before
  pub name : last ≡ was
