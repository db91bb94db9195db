-- The fields of `Marks`, given back by its items.
use Rattle.std.specs.Prelude.{◌≡◌, ℕ, List, length, take}
use Rattle.lists.specs.Padding.{padded, IsPadded}
use Rattle.lists.proofs.Padding.{length-front, padded-take}
use Rattle.tree_parts.specs.declared.marks.Marks.TheInside.{Inside}

abbrev pub fields_of : List ℕ → Inside
fields_of items = record { items = padded 0 12 items; count = length items }

pub fields_of-take : (m : Inside) → IsPadded 0 12 m.count m.items → fields_of (take m.count m.items) ≡ m
fields_of-take m h = same _ _ (padded-take 0 12 m.count m.items h) (length-front 0 12 m.count m.items h)
  where
    make : List ℕ → ℕ → Inside
    make items count = record { items = items; count = count }

    same : (items : List ℕ) (count : ℕ) → items ≡ m.items → count ≡ m.count → make items count ≡ m
    same items count q r = rw (q, r)
