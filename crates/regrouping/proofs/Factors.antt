-- Products of whole numbers are equal where they have the same factors, in whatever order and brackets.
use Rattle.std.proofs.Common.{◌≡◌, ℕ, nat_lt, if◌then◌else◌, List, [], ◌∷◌, Bool, true, false, get_or, ℤ, pos, ◌*ℤ◌, refl, sym, ap, ◌∙◌}
use Rattle.arithmetic.proofs.IntegerLaws.{*ℤ_assoc}
use Rattle.arithmetic.proofs.FractionSums.{*ℤ-pos-one, one-*ℤ, second_first}

-- a product in brackets: 1, the factor at a place, or two products
pub data Shape : Type 0 where
  none : Shape
  at : ℕ → Shape
  by : Shape → Shape → Shape

abbrev pub value : List ℤ → Shape → ℤ
value zs none = pos 1
value zs (at n) = get_or zs n (pos 1)
value zs (by p q) = value zs p *ℤ value zs q

abbrev put : ℕ → List ℕ → List ℕ
put n [] = n ∷ []
put n (k ∷ ks) = if nat_lt k n then k ∷ put n ks else n ∷ k ∷ ks

abbrev put_all : List ℕ → List ℕ → List ℕ
put_all [] ks = ks
put_all (n ∷ ns) ks = put n (put_all ns ks)

-- the places, in order
abbrev pub places : Shape → List ℕ
places none = []
places (at n) = n ∷ []
places (by p q) = put_all (places p) (places q)

abbrev listed : List ℤ → List ℕ → ℤ
listed zs [] = pos 1
listed zs (n ∷ ns) = get_or zs n (pos 1) *ℤ listed zs ns

listed-put : (zs : List ℤ) (n : ℕ) (ks : List ℕ) → listed zs (put n ks) ≡ get_or zs n (pos 1) *ℤ listed zs ks
listed-put zs n [] = refl
listed-put zs n (k ∷ ks) = by_case (nat_lt k n) (listed-put zs n ks)
  where
    by_case : (b : Bool) → listed zs (put n ks) ≡ get_or zs n (pos 1) *ℤ listed zs ks
        → listed zs (if b then k ∷ put n ks else n ∷ k ∷ ks) ≡ get_or zs n (pos 1) *ℤ (get_or zs k (pos 1) *ℤ listed zs ks)
    by_case true h = ap (λ z. get_or zs k (pos 1) *ℤ z) h ∙ second_first (get_or zs k (pos 1)) (get_or zs n (pos 1)) (listed zs ks)
    by_case false h = refl

listed-put_all : (zs : List ℤ) (ns ks : List ℕ) → listed zs (put_all ns ks) ≡ listed zs ns *ℤ listed zs ks
listed-put_all zs [] ks = sym (one-*ℤ (listed zs ks))
listed-put_all zs (n ∷ ns) ks =
    listed-put zs n (put_all ns ks) ∙ ap (λ z. get_or zs n (pos 1) *ℤ z) (listed-put_all zs ns ks)
    ∙ sym (*ℤ_assoc (get_or zs n (pos 1)) (listed zs ns) (listed zs ks))

value-listed : (zs : List ℤ) (p : Shape) → value zs p ≡ listed zs (places p)
value-listed zs none = refl
value-listed zs (at n) = sym (*ℤ-pos-one (get_or zs n (pos 1)))
value-listed zs (by p q) =
    ap (λ z. z *ℤ value zs q) (value-listed zs p) ∙ ap (λ z. listed zs (places p) *ℤ z) (value-listed zs q)
    ∙ sym (listed-put_all zs (places p) (places q))

-- equal values of two products with the same places
pub same_places : (zs : List ℤ) (p q : Shape) → places p ≡ places q → value zs p ≡ value zs q
same_places zs p q e = value-listed zs p ∙ ap (listed zs) e ∙ sym (value-listed zs q)
