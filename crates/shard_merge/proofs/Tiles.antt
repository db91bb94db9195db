-- The ranges of all shards are all numbers, each once.
use Rattle.std.proofs.Common.{◌≡◌, ℕ, suc, ◌+◌, ◌-◌, ◌*◌, ◌/◌, ◌≤◌, ◌<◌, refl, ap, ◌∙◌, arith}
use Rattle.std.proofs.lemmas.Nat.{le-div}
use Rattle.std.proofs.Math.Nat.{div-mul-le_self, mul-div_cancel_left, div-le_of_le-mul, div-eq_of_lt, mul-le-mul_right}
use Rattle.shard_merge.specs.Ranges.{range_of, AreTiles}

-- with at least as many numbers as shards, a bound is below the next one
bound_grows : (n k i : ℕ) → 1 ≤ k → k ≤ n → i * n / k < (i + 1) * n / k
bound_grows n k i some enough =
    le-div (suc (i * n / k)) ((i + 1) * n) k some (omega (arith, div-mul-le_self (i * n) k))

last_bound : (n k : ℕ) → 1 ≤ k → (k - 1 + 1) * n / k ≡ n
last_bound n k some =
    let all : k - 1 + 1 ≡ k = omega arith in
    ap (λ (j : ℕ). j * n / k) all ∙ mul-div_cancel_left n some

first_bound : (n k : ℕ) → 1 ≤ k → 0 * n / k ≡ 0
first_bound n k some =
    let none : 0 * n ≡ 0 = omega arith in
    ap (λ (j : ℕ). j / k) none ∙ div-eq_of_lt some

pub ranges_tile : (n k : ℕ) → 1 ≤ k → k ≤ n → AreTiles n k (range_of n k)
ranges_tile n k some enough = record {
  some = λ i lt. bound_grows n k i some enough;
  first = first_bound n k some;
  next = λ i lt. refl;
  last = last_bound n k some;
}

pub range_within : (n k i : ℕ) → i < k → (i + 1) * n / k ≤ n
range_within n k i lt =
    let times : (i + 1) * n ≤ k * n = mul-le-mul_right n (omega arith) in
    div-le_of_le-mul k times
