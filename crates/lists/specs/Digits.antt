-- Numbers by their digits in mixed bases.
use Rattle.std.specs.Prelude.{ℕ, ◌+◌, ◌*◌, ◌/◌, ◌%◌, ◌<◌, List, [], ◌∷◌}

abbrev pub product_of : List ℕ → ℕ
product_of [] = 1
product_of (b ∷ bs) = b * product_of bs

-- the number of the digits, of which the first is the most significant
abbrev pub joined : List ℕ → List ℕ → ℕ
joined (b ∷ bs) (x ∷ xs) = x * product_of bs + joined bs xs
joined bs xs = 0

-- the digits of a number
abbrev pub split : List ℕ → ℕ → List ℕ
split [] k = []
split (b ∷ bs) k = k / product_of bs ∷ split bs (k % product_of bs)

-- each digit is below its base
abbrev pub AreDigits : List ℕ → List ℕ → Type 0
AreDigits [] [] = Unit {0}
AreDigits (b ∷ bs) (x ∷ xs) = (x < b) × AreDigits bs xs
AreDigits bs xs = ⊥
