-- Counts in lists of numbers, and sums over lists.
use Rattle.std.specs.Prelude.{ℕ, zero, suc, ◌+◌, ◌==◌, Bool, cond, List, [], ◌∷◌, min, nat_le, nat_lt}

-- 1 if the test holds, and otherwise 0
abbrev pub bit : Bool → ℕ
bit b = cond b 1 0

-- how often x stands in the list
abbrev pub occurrences : ℕ → List ℕ → ℕ
occurrences x [] = 0
occurrences x (y ∷ ys) = bit (y == x) + occurrences x ys

-- how many numbers of the list are at most x
abbrev pub up_to : ℕ → List ℕ → ℕ
up_to x [] = 0
up_to x (y ∷ ys) = bit (nat_le y x) + up_to x ys

-- the number f of each element, added up
abbrev pub total : {A : Type 0} → (A → ℕ) → List A → ℕ
total f [] = 0
total f (x ∷ xs) = f x + total f xs

-- f of each number below n, added up
abbrev pub sum_below : ℕ → (ℕ → ℕ) → ℕ
sum_below zero f = 0
sum_below (suc n) f = sum_below n f + f n

-- 1 if x is below n, and otherwise 0
abbrev pub once_below : ℕ → ℕ → ℕ
once_below n x = bit (nat_lt x n)

-- No bad number: 2^64 - 1, which is the greatest number of a word and is never reported.
abbrev pub nothing_bad : ℕ
nothing_bad = 18446744073709551615

-- the least number of a list, or `nothing_bad` if it is empty
abbrev pub least_of : List ℕ → ℕ
least_of [] = nothing_bad
least_of (x ∷ xs) = min x (least_of xs)
