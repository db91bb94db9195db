-- The fields of `Pairs`, given back by its items.
use Rattle.std.specs.Prelude.{◌≡◌, ℕ, List, length, take}
use Rattle.lists.specs.Padding.{padded, IsPadded}
use Rattle.lists.proofs.Padding.{length-front, padded-take}
use Rattle.prufer.specs.declared.pairs.Pairs.TheInside.{Inside}

abbrev pub fields_of : List (ℕ × ℕ) → Inside
fields_of items = record { items = padded (0, 0) 10 items; count = length items }

pub fields_of-take : (p : Inside) → IsPadded (0, 0) 10 p.count p.items → fields_of (take p.count p.items) ≡ p
fields_of-take p h = same _ _ (padded-take (0, 0) 10 p.count p.items h) (length-front (0, 0) 10 p.count p.items h)
  where
    make : List (ℕ × ℕ) → ℕ → Inside
    make items count = record { items = items; count = count }

    same : (items : List (ℕ × ℕ)) (count : ℕ) → items ≡ p.items → count ≡ p.count → make items count ≡ p
    same items count q r = rw (q, r)
