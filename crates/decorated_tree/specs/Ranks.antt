-- The rank of a list of degrees by binomials.
use Rattle.std.specs.Prelude.{ℕ, zero, suc, ◌+◌, ◌-◌, List, [], ◌∷◌, length}
use Rattle.trees.specs.Numbering.{choose}

-- how many lists of n + 1 positive numbers with the sum d have a first number from 1 to b
abbrev pub lists_passed : ℕ → ℕ → ℕ → ℕ
lists_passed d n zero = 0
lists_passed d n (suc b) = lists_passed d n b + choose (d - (b + 1) - 1) (n - 1)

-- the lists with a smaller first number are counted by binomials, and then those with the same first number by their
-- rests
abbrev pub binomial_rank : List ℕ → ℕ → ℕ
binomial_rank [] d = 0
binomial_rank (a ∷ []) d = 0
binomial_rank (a ∷ b ∷ ds) d = lists_passed d (suc (length ds)) (a - 1) + binomial_rank (b ∷ ds) (d - a)
