-- The fields of `Numbers` and of `Pairs`, given back by their items.
use Rattle.std.specs.Prelude.{◌≡◌, ℕ, List, length, take}
use Rattle.lists.specs.Padding.{padded, IsPadded}
use Rattle.lists.proofs.Padding.{length-front, padded-take}
use Rattle.tree_text.specs.declared.numbers.Numbers.TheInside as numbers
use Rattle.tree_text.specs.declared.pairs.Pairs.TheInside as pairs

abbrev pub numbers_fields : List ℕ → numbers.Inside
numbers_fields items = record { items = padded 0 12 items; count = length items }

pub numbers_fields-take : (l : numbers.Inside) → IsPadded 0 12 l.count l.items → numbers_fields (take l.count l.items) ≡ l
numbers_fields-take l h = same _ _ (padded-take 0 12 l.count l.items h) (length-front 0 12 l.count l.items h)
  where
    make : List ℕ → ℕ → numbers.Inside
    make items count = record { items = items; count = count }

    same : (items : List ℕ) (count : ℕ) → items ≡ l.items → count ≡ l.count → make items count ≡ l
    same items count p q = rw (p, q)

abbrev pub pairs_fields : List (ℕ × ℕ) → pairs.Inside
pairs_fields items = record { items = padded (0, 0) 10 items; count = length items }

pub pairs_fields-take : (l : pairs.Inside) → IsPadded (0, 0) 10 l.count l.items → pairs_fields (take l.count l.items) ≡ l
pairs_fields-take l h = same _ _ (padded-take (0, 0) 10 l.count l.items h) (length-front (0, 0) 10 l.count l.items h)
  where
    make : List (ℕ × ℕ) → ℕ → pairs.Inside
    make items count = record { items = items; count = count }

    same : (items : List (ℕ × ℕ)) (count : ℕ) → items ≡ l.items → count ≡ l.count → make items count ≡ l
    same items count p q = rw (p, q)
