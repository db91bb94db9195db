-- What a modulus and a list of weights may be.
use Rattle.std.specs.Prelude.{◌≡◌, ℕ, ◌%◌, ◌^◌, ◌<◌, ◌≤◌, ℤ, List, All, length, unsigned_abs, nat_lt, Bool}

-- a modulus: odd, at least 3 and below 2^62
pub record IsModulus (m : ℕ) : Type 0 where
  pub odd : m % 2 ≡ 1
  pub at_least_3 : 3 ≤ m
  pub limited : m < 2 ^ 62

-- a weight is at least -1,000,000,000 and at most 1,000,000,000
abbrev pub IsWeight : ℤ → Type 0
IsWeight w = unsigned_abs w ≤ 1000000000

abbrev pub is_beyond_limit : ℤ → Bool
is_beyond_limit w = nat_lt 1000000000 (unsigned_abs w)

-- the weights of a problem: 2 to 13, each within its limit
pub record AreWeights (weights : List ℤ) : Type 0 where
  pub at_least_2 : 2 ≤ length weights
  pub at_most_13 : length weights ≤ 13
  pub within : All IsWeight weights
