-- What the numbers of the tests' job mean.
use Rattle.std.proofs.Common.{◌≡◌, ℕ, ◌<◌, cond, ltb, arith}
use Rattle.std.specs.Prelude.{Option, Some, None}
use Rattle.std.proofs.lemmas.Bool.Decides.{nat_tests}
use Rattle.claim_table.specs.Counts.{nothing_bad}

-- the bad number, if there is one
abbrev pub mark_of : ℕ → Option ℕ
mark_of number = cond (ltb number nothing_bad) (Some number) None

pub mark_below : (number bad : ℕ) → mark_of number ≡ Some bad → bad < nothing_bad
mark_below number bad e = grind (arith, nat_tests)
