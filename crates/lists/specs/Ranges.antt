-- Consecutive numbers.
use Rattle.std.specs.Prelude.{ℕ, zero, suc, List, [], ◌∷◌, ◌++◌}

-- the numbers below n, in order
abbrev pub below : ℕ → List ℕ
below zero = []
below (suc n) = below n ++ n ∷ []

-- the numbers from a, of which there are n
abbrev pub counted_from : ℕ → ℕ → List ℕ
counted_from a zero = []
counted_from a (suc n) = a ∷ counted_from (suc a) n
