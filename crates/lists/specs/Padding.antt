-- Short lists in longer arrays, whose further items are one value.
use Rattle.std.specs.Prelude.{◌≡◌, ℕ, ◌-◌, ◌≤◌, List, ◌++◌, length, drop, replicate}

-- a list, and the value up to a length
abbrev pub padded : {A : Type 0} → A → ℕ → List A → List A
padded d n xs = xs ++ replicate (n - length xs) d

-- an array of a length is the value from an index on
pub record IsPadded {A : Type 0} (d : A) (n c : ℕ) (l : List A) : Type 0 where
  pub short : c ≤ n
  pub long : length l ≡ n
  pub rest : drop c l ≡ replicate (n - c) d
