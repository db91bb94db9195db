-- The fields of `Ends`, given back by its items.
use Rattle.std.specs.Prelude.{◌≡◌, ℕ, List, length, take}
use Rattle.lists.specs.Padding.{padded, IsPadded}
use Rattle.lists.proofs.Padding.{length-front, padded-take}
use Rattle.tree_parts.specs.declared.ends.Ends.TheInside.{Inside}

abbrev pub fields_of : List (ℕ × ℕ) → Inside
fields_of items = record { items = padded (0, 0) 10 items; count = length items }

pub fields_of-take : (e : Inside) → IsPadded (0, 0) 10 e.count e.items → fields_of (take e.count e.items) ≡ e
fields_of-take e h = same _ _ (padded-take (0, 0) 10 e.count e.items h) (length-front (0, 0) 10 e.count e.items h)
  where
    make : List (ℕ × ℕ) → ℕ → Inside
    make items count = record { items = items; count = count }

    same : (items : List (ℕ × ℕ)) (count : ℕ) → items ≡ e.items → count ≡ e.count → make items count ≡ e
    same items count q r = rw (q, r)
