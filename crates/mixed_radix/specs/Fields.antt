-- The fields of a `Radix`, given back by its bases.
use Rattle.std.specs.Prelude.{◌≡◌, ℕ, List, length, take}
use Rattle.std.proofs.Common.{sym}
use Rattle.lists.specs.Digits.{product_of}
use Rattle.lists.specs.Padding.{padded, IsPadded}
use Rattle.lists.proofs.Padding.{length-front, padded-take}
use Rattle.mixed_radix.specs.declared.Radix.TheInside.{Inside}

abbrev pub fields_of : List ℕ → Inside
fields_of bases = record { bases = padded 0 40 bases; count = length bases; size = product_of bases }

pub fields_of-take : (r : Inside) → IsPadded 0 40 r.count r.bases → r.size ≡ product_of (take r.count r.bases) → fields_of (take r.count r.bases) ≡ r
fields_of-take r h s = same _ _ _ (padded-take 0 40 r.count r.bases h) (length-front 0 40 r.count r.bases h) (sym s)
  where
    make : List ℕ → ℕ → ℕ → Inside
    make bases count size = record { bases = bases; count = count; size = size }

    same : (bases : List ℕ) (count size : ℕ) → bases ≡ r.bases → count ≡ r.count → size ≡ r.size → make bases count size ≡ r
    same bases count size p q s = rw (p, q, s)
