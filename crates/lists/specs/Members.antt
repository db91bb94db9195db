-- Members of lists.
use Rattle.std.specs.Prelude.{◌≡◌, ◌≢◌, ℕ, ◌+◌, Bool, false, ◌||◌, ◌==◌, if◌then◌else◌, List, [], ◌∷◌}

-- x is an item of a list
pub data IsIn {A : Type 0} : A → List A → Type 0 where
  here : {x : A} {xs : List A} → IsIn x (x ∷ xs)
  there : {x y : A} {xs : List A} → IsIn x xs → IsIn x (y ∷ xs)

-- each item stands once
abbrev pub EachOnce : {A : Type 0} → List A → Type 0
EachOnce [] = Unit {0}
EachOnce {A} (x ∷ xs) = ((y : A) → IsIn y xs → x ≢ y) × EachOnce xs

-- x is an item of a list, as a test of numbers
abbrev pub is_member : ℕ → List ℕ → Bool
is_member x [] = false
is_member x (y ∷ ys) = (y == x) || is_member x ys

-- how many items of a list are x
abbrev pub count_in : ℕ → List ℕ → ℕ
count_in x [] = 0
count_in x (y ∷ ys) = (if y == x then 1 else 0) + count_in x ys

-- a list without its first x
abbrev pub without : ℕ → List ℕ → List ℕ
without x [] = []
without x (y ∷ ys) = if y == x then ys else y ∷ without x ys

-- all numbers of a list are different
abbrev pub AllDifferent : List ℕ → Type 0
AllDifferent [] = Unit {0}
AllDifferent (x ∷ xs) = (is_member x xs ≡ false) × AllDifferent xs
