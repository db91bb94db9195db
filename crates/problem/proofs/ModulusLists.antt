-- Lists of moduli, by their first modulus and the others.
use Rattle.std.proofs.Common.{◌≡◌, ℕ, zero, suc, ◌<◌, ◌≤◌, ◌-◌, ◌*◌, ◌^◌, ◌↔◌, Bool, false, IsTrue, IfSome, IsNone, Option, Some, None, List, [], ◌∷◌, take, drop, length, get_or, arith, All, sym, ap, subst, ◌∙◌}
use Rattle.std.proofs.Math.Nat.{mul_comm}
use Rattle.std.proofs.lemmas.List.{take_all}
use Rattle.std.proofs.lemmas.List.Elements.{All-from_get_or}
use Rattle.std.specs.Option.{SomeIff}
use Rattle.arithmetic.specs.Numbers.{gcd}
use Rattle.lists.specs.Digits.{product_of}
use Rattle.arithmetic.specs.Agreement.{ArePairwiseCoprime}

-- a list that has a first element is that element before the others
pub by_first : (ms : List ℕ) (d : ℕ) → 0 < length ms → ms ≡ get_or ms 0 d ∷ take (length ms - 1) (drop 1 ms)
by_first [] d some = absurd (omega arith)
by_first (m ∷ ms) d some = ap (λ ns. m ∷ ns) (sym (take_all (length (m ∷ ms) - 1) ms (omega arith)))

-- the product by the first modulus
pub product_by_first : (p m : ℕ) (ms : List ℕ) (d : ℕ) → 0 < length ms → m ≡ get_or ms 0 d
    → p ≡ product_of (take (length ms - 1) (drop 1 ms)) → p * m ≡ product_of ms
product_by_first p m ms d some is rest =
    mul_comm p m ∙ ap (λ n. n * p) is ∙ ap (λ n. get_or ms 0 d * n) rest ∙ sym (ap product_of (by_first ms d some))

pub some_made : (r : Option ℕ) (x whole : ℕ) → SomeIff r (x < 2 ^ 128) x → x ≡ whole → IfSome r (λ v. v ≡ whole)
some_made (Some v) x whole h e = h.1 ∙ e
some_made None x whole h e = tt

pub none_made : (r : Option ℕ) (x whole : ℕ) → SomeIff r (x < 2 ^ 128) x → x ≡ whole → IsNone r → 2 ^ 128 ≤ whole
none_made (Some v) x whole h e none = cc
none_made None x whole h e none = subst (λ n. 2 ^ 128 ≤ n) e (omega (arith, h))

-- the pairs of a list are those with the first modulus and those of the others
pairs : (m : ℕ) (ms : List ℕ) → All (λ n. gcd m n ≡ 1) ms → ArePairwiseCoprime ms → ArePairwiseCoprime (m ∷ ms)
pairs m ms first rest i zero before inside = absurd (omega arith)
pairs m ms first rest zero (suc j) before inside = first j 0 (omega arith)
pairs m ms first rest (suc i) (suc j) before inside = rest i j (omega arith) (omega arith)

pairs_first : (m : ℕ) (ms : List ℕ) → ArePairwiseCoprime (m ∷ ms) → All (λ n. gcd m n ≡ 1) ms
pairs_first m ms are = All-from_get_or (λ n. gcd m n ≡ 1) ms 0 (λ i inside. are 0 (suc i) (omega arith) (omega arith))

pairs_rest : (m : ℕ) (ms : List ℕ) → ArePairwiseCoprime (m ∷ ms) → ArePairwiseCoprime ms
pairs_rest m ms are i j before inside = are (suc i) (suc j) (omega arith) (omega arith)

-- where the first modulus is coprime to the others, it is they that are left to look at
pub coprime_rest : (b : Bool) (m : ℕ) (ms : List ℕ) (d : ℕ) → 0 < length ms → m ≡ get_or ms 0 d
    → All (λ n. gcd m n ≡ 1) (take (length ms - 1) (drop 1 ms))
    → (IsTrue b ↔ ArePairwiseCoprime (take (length ms - 1) (drop 1 ms))) → IsTrue b ↔ ArePairwiseCoprime ms
coprime_rest b m ms d some is first rest =
    subst (λ ns. IsTrue b ↔ ArePairwiseCoprime ns)
    (ap (λ n. n ∷ take (length ms - 1) (drop 1 ms)) is ∙ sym (by_first ms d some))
    (λ t. pairs m others first (rest.0 t), λ are. rest.1 (pairs_rest m others are))
  where
    others : List ℕ
    others = take (length ms - 1) (drop 1 ms)

pub coprime_first : (b : Bool) (m : ℕ) (ms : List ℕ) (d : ℕ) → 0 < length ms → m ≡ get_or ms 0 d
    → (IsTrue b ↔ All (λ n. gcd m n ≡ 1) (take (length ms - 1) (drop 1 ms))) → b ≡ false
    → IsTrue b ↔ ArePairwiseCoprime ms
coprime_first b m ms d some is first fails =
    (λ t. cc, λ are. first.1 (pairs_first m others (subst ArePairwiseCoprime (by_first ms d some ∙ ap (λ n. n ∷ others) (sym is)) are)))
  where
    others : List ℕ
    others = take (length ms - 1) (drop 1 ms)
