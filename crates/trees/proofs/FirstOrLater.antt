-- What is found in a list of vertices is its first vertex or a later one: the steps of each induction along a walk.
use Rattle.std.proofs.Common.{◌≡◌, ℕ, Bool, true, ◌||◌, ◌==◌, arith}
use Rattle.std.proofs.lemmas.Bool.Decides.{nat_tests}

pub at_first : (x : ℕ) (b : Bool) → ((x == x) || b) ≡ true
at_first x b = grind arith

pub later : (x v : ℕ) (b : Bool) → b ≡ true → ((x == v) || b) ≡ true
later x v b h = grind arith

pub past_first : (x v : ℕ) (b : Bool) → ((x == v) || b) ≡ true → (x ≡ v → ⊥) → b ≡ true
past_first x v b h ne = grind (arith, nat_tests)
